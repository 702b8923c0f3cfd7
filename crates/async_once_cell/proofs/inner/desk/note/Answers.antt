use Rattle.async_once_cell.proofs.Sections.{note_keeps}
use Rattle.async_once_cell.proofs.inner.desk.note.Goals as goal

pub note-requires-clause-notes : goal.note-requires-clause-notes
note-requires-clause-notes c = rw c.append.ensures.own.1 (note_keeps _ _ _ c.requires.desk c.args.hand.now.is_hand c.args.section.now c.requires.can)
