-- The poll began after all that the task had seen, and ended with the newest entry.
use Rattle.std.proofs.Common.{List, sym, subst}
use Rattle.once_machine.specs.Record.{Entry}
use Rattle.async_once_cell.specs.Walks.{Spans, end_of}
use Rattle.async_once_cell.proofs.inner.task.Task.poll.Goals as goal

pub returns-clause-set : goal.returns-clause-set
returns-clause-set g c = λ set.
    let ending = c.poll_steps-ending.result in
    let number = c.poll_steps-ending.new.self.number in
    let did = c.poll_steps-ending.ensures in
    c.answered_where_set.ensures number ending c.args.self.now.log set
    (subst (λ (l : List Entry). Spans number (end_of number ending) c.args.self.now.log l) (sym c.record.ensures.1) did.polled.spans) did.polled.not_dropped
