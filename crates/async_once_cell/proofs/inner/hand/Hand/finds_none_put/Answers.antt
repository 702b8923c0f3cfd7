use Rattle.async_once_cell.proofs.Acts.{none_keeps}
use Rattle.async_once_cell.proofs.inner.hand.Hand.finds_none_put.Goals as goal

pub load-requires-clause-moves : goal.load-requires-clause-moves
load-requires-clause-moves c = rw c.requires.word.1 (none_keeps _ _ c.args.self.now.is_hand c.requires.can)
