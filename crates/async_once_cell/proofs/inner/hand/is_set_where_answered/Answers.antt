use Rattle.async_once_cell.proofs.Seen.{seen_answered}
use Rattle.async_once_cell.proofs.inner.hand.is_set_where_answered.Goals as goal

pub returns : goal.returns
returns c = seen_answered c.args.seen.now.log c.learn.ensures.rule.2 c.learn.ensures.log.1 c.requires.0 c.requires.1
