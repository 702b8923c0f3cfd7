use Rattle.async_once_cell.proofs.Seen.{seen_set}
use Rattle.async_once_cell.proofs.inner.hand.stays_set.Goals as goal

pub returns : goal.returns
returns c = λ begins set. seen_set c.args.later.now.log c.learn.ensures.rule.2
    c.learn.ensures.log.1 c.args.earlier.now.log begins set
