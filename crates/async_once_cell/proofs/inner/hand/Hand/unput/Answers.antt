use Rattle.async_once_cell.proofs.Acts.{unput_keeps}
use Rattle.async_once_cell.proofs.inner.hand.Hand.unput.Goals as goal

pub note-requires-clause-notes : goal.note-requires-clause-notes
note-requires-clause-notes c = unput_keeps _ _ c.args.self.now.is_hand c.args.why c.requires.can
