use Rattle.pagebook_uses.proofs.Draw.Steps.{joins}
use Rattle.pagebook_uses.proofs.tickets.Counter.drawer.Goals as goal

pub note-requires-clause-notes : goal.note-requires-clause-notes
note-requires-clause-notes c = joins c.again-seen.result.log c.no_pens-pens.result.held
