use Rattle.async_once_cell.proofs.Late.{late}
use Rattle.async_once_cell.proofs.inner.task.answered_where_set.Goals as goal

pub returns : goal.returns
returns c = late c.learn.ensures.rule.0 c.learn.ensures.rule.1 c.args.seen.now.log c.learn.new.self.log c.learn.ensures.rule.2 c.learn.ensures.log.1
