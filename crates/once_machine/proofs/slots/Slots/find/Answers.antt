-- The slot with the ticket has its listing.
use Rattle.std.proofs.Common.{Some, refl, sym, ap, ◌∙◌}
use Rattle.once_machine.proofs.Listing.Tickets.{find_none}
use Rattle.once_machine.proofs.Listing.Kept.{kept_found, not_false}
use Rattle.once_machine.specs.Kept.{is_kept}
use Rattle.once_machine.specs.Slots.{listings_in}
use Rattle.once_machine.proofs.slots.Slots.find.Goals as goal

pub returns-in_err-place : goal.returns-in_err-place
returns-in_err-place g c = rw c.from_residual.ensures (sym (find_none c.args.ticket (listings_in c.args.self.now) (c.in_err-place.ensures.none refl)))

pub returns : goal.returns
returns g c =
    let slots = c.args.self.now in
    let x = c.index.result.now in
    let p = c.in_ok-place.ensures.some in
    let at = p.1 x in
    ap (λ y. Some y.waker) c.index.ensures ∙ sym (kept_found is_kept c.in_ok-place.place slots.slots.items x p.0 at (rw at (not_false _ p.2)) slots.once)
