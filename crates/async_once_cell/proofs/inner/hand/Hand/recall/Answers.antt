-- The page has not changed, and says how the task rests.
use Rattle.async_once_cell.proofs.Recalls.{recalled_notes}
use Rattle.async_once_cell.proofs.inner.hand.Hand.recall.Goals as goal

pub note-requires-clause-notes : goal.note-requires-clause-notes
note-requires-clause-notes c = recalled_notes c.args.self.now.seen.log _ _ c.args.self.now.is_hand
