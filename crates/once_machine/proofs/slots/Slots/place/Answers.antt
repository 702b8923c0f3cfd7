-- A ticket that is in no slot has no listing, and the ticket of the holes has none.
use Rattle.std.proofs.Common.{sym, ◌∙◌}
use Rattle.std.proofs.lemmas.Bool.{ne_eqb}
use Rattle.once_machine.proofs.Listing.Tickets.{placed_by, placed_none}
use Rattle.once_machine.proofs.Listing.Kept.{holes_none, kept_none, not_true}
use Rattle.once_machine.specs.Kept.{hole, is_kept}
use Rattle.once_machine.proofs.slots.Slots.place.Goals as goal

pub returns-then-ticket-eq-HOLE-clause-none : goal.returns-then-ticket-eq-HOLE-clause-none
returns-then-ticket-eq-HOLE-clause-none g c = λ _. rw c.if-ticket-eq-HOLE.true (holes_none is_kept hole c.args.self.now.slots.items (λ x k. not_true _ k))

pub returns-in-None-clause-none : goal.returns-in-None-clause-none
returns-in-None-clause-none g c = λ none.
    let xs = c.args.self.now.slots.items in
    kept_none is_kept c.args.ticket xs (placed_none c.args.ticket xs (sym c.searched.ensures ∙ none))

pub returns-in-None-clause-some : goal.returns-in-None-clause-some
returns-in-None-clause-some g c = placed_by c.args.ticket hole c.args.self.now.slots.items c.searched.result c.searched.ensures (ne_eqb c.args.ticket hole c.if-ticket-eq-HOLE.false)
