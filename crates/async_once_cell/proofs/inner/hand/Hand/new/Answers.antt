use Rattle.async_once_cell.proofs.Acts.{make_keeps}
use Rattle.async_once_cell.proofs.inner.hand.Hand.new.Goals as goal

pub note-requires-clause-notes : goal.note-requires-clause-notes
note-requires-clause-notes c = rw c.no_pens-pens.ensures.1 (make_keeps c.again-seen.result.log)
