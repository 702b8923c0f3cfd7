use Rattle.async_once_cell.proofs.Acts.{refused_keeps}
use Rattle.async_once_cell.proofs.inner.hand.Hand.refused.Goals as goal

pub note-requires-clause-notes : goal.note-requires-clause-notes
note-requires-clause-notes c = refused_keeps _ _ c.args.self.now.is_hand c.args.why c.requires.can
