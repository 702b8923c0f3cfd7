use Rattle.async_once_cell.proofs.Sections.{see_keeps}
use Rattle.async_once_cell.proofs.inner.desk.see.Goals as goal

pub load-found-requires-clause-moves : goal.load-found-requires-clause-moves
load-found-requires-clause-moves c = rw (c.requires.word.1, c.append.ensures.own.1) (see_keeps _ _ _ c.requires.desk c.args.hand.now.is_hand c.args.room c.requires.can)
