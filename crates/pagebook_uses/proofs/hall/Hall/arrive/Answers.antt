use Rattle.pagebook_uses.proofs.Visits.Steps.{arrives}
use Rattle.pagebook_uses.proofs.hall.Hall.arrive.Goals as goal

pub note-requires-clause-notes : goal.note-requires-clause-notes
note-requires-clause-notes c = arrives c.again-seen.result.log c.no_pens-pens.result.held
