use Rattle.async_once_cell.proofs.Acts.{drop_keeps}
use Rattle.async_once_cell.proofs.inner.shared.Shared.begin_drop.Goals as goal

pub note-requires-clause-notes : goal.note-requires-clause-notes
note-requires-clause-notes g c = drop_keeps _ _ c.args.self.now.hand.is_hand c.requires.can
