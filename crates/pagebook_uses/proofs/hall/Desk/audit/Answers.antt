use Rattle.std.proofs.Common.{sym}
use Rattle.pagebook_uses.proofs.Visits.Steps.{audits}
use Rattle.pagebook_uses.proofs.hall.Desk.audit.Goals as goal

pub load-requires-clause-moves : goal.load-requires-clause-moves
load-requires-clause-moves c =
    let desk = c.args.self.now in
    rw (c.requires.word.0) (audits c.args.seen.now.log desk.pens.held desk.entered (sym desk.held_is))
