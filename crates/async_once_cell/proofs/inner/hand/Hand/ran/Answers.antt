use Rattle.async_once_cell.proofs.Acts.{ran_keeps}
use Rattle.async_once_cell.proofs.inner.hand.Hand.ran.Goals as goal

pub note-requires-clause-notes : goal.note-requires-clause-notes
note-requires-clause-notes c = ran_keeps _ _ c.args.self.now.is_hand c.args.answer c.requires.right
