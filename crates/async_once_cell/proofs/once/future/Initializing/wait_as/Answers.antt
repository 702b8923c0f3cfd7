-- A token that finds the value learns it. One that finds nothing knew nothing before, and knows nothing after the look.
-- So what `wait_as_on` says holds of the whole call.
use Rattle.std.proofs.Common.{rules}
use Rattle.async_once_cell.proofs.Later.{saw_on}
use Rattle.async_once_cell.proofs.Looks.{grows_on, look_grows, waits_on}
use Rattle.async_once_cell.proofs.once.future.Initializing.wait_as.Goals as goal

pub returns-in-Some-clause-value : goal.returns-in-Some-clause-value
returns-in-Some-clause-value g c = search rules

pub returns-clause-value : goal.returns-clause-value
returns-clause-value g c = waits_on _ _ c.in_default.ensures.value c.wait_as_on.ensures.value

pub returns-clause-log : goal.returns-clause-log
returns-clause-log g c = grows_on _ _ _ _ _ _ c.get_as.ensures.look c.wait_as_on.ensures.log

pub returns-in-Some-clause-log : goal.returns-in-Some-clause-log
returns-in-Some-clause-log g c = look_grows _ _ _ _ _ c.get_as.ensures.look

pub returns-in_err-parker-clause-log : goal.returns-in_err-parker-clause-log
returns-in_err-parker-clause-log g c = look_grows _ _ _ _ _ c.get_as.ensures.look

pub returns-clause-last : goal.returns-clause-last
returns-clause-last g c =
    saw_on g.X.Failure.ending c.wait_as_on.result c.args.self.cell c.args.self.task c.args.token.now.log c.get_as.new.token.log c.wait_as_on.new.token.log
    (look_grows _ _ _ _ _ c.get_as.ensures.look) c.wait_as_on.ensures.last
