use Rattle.async_once_cell.proofs.Sections.{put_keeps}
use Rattle.async_once_cell.proofs.inner.desk.mark_put.Goals as goal

pub store-requires-clause-moves : goal.store-requires-clause-moves
store-requires-clause-moves c = rw (c.requires.word.1, c.append.ensures.own.1) (put_keeps _ _ _ c.requires.desk c.args.hand.now.is_hand c.requires.can c.requires.none)
