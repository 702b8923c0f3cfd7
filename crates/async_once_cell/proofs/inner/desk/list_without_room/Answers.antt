-- A claim gives up a ticket that no listing has, so the list stays as it was.
use Rattle.std.proofs.Common.{◌≡◌, ℕ, Bool, true, false, cond, List, Option, Some, None, refl, sym, ap, ◌∙◌}
use Rattle.std.specs.Option.{is_some}
use Rattle.once_machine.specs.declared.word.Sees.{Sees}
use Rattle.once_machine.specs.declared.waiters.Answer.TheVariants.{Claimed}
use Rattle.once_machine.specs.Numbers.{member}
use Rattle.once_machine.specs.declared.waiters.Listing.{Listing}
use Rattle.once_machine.specs.Listings.{kept_ticket, list_without, tickets}
use Rattle.once_machine.specs.Claims.{Claimant, Claims}
use Rattle.once_machine.specs.Room.{claimant}
use Rattle.once_machine.specs.Word.{flags_of, sees}
use Rattle.once_machine.proofs.Listing.Tickets.{take_none}
use Rattle.async_once_cell.proofs.inner.desk.list_without_room.Goals as goal

kept_none : (b : Bool) (n : ℕ) → is_some (cond b (Some n) None) ≡ false → b ≡ false
kept_none true n e = e
kept_none false n e = refl

module _ {W : Type 0} where
  without_none : (k : Option ℕ) (xs : List (Listing W)) → is_some (kept_ticket k xs) ≡ false → list_without k xs ≡ xs
  without_none None xs e = refl
  without_none (Some n) xs e = take_none n xs (kept_none (member n (tickets xs)) n e)

  claims_free : (seen : Sees) (s : Claimant W) → seen ≡ Sees.Free → is_some (kept_ticket s.ticket s.listings) ≡ false
      → Claims seen s Claimed (record { head = true; listings = s.listings; ticket = None })
  claims_free seen s e none = rw e (refl, ap (λ xs. record { head = true; listings = xs; ticket = None }) (sym (without_none s.ticket s.listings none)))

pub returns-in-Free-clause-claims : goal.returns-in-Free-clause-claims
returns-in-Free-clause-claims g c =
    let l = c.args.lists.now in
    claims_free (sees (flags_of c.args.word) l.head) (claimant l c.args.ticket.now)
    (ap (λ f. sees f l.head) (sym c.from_bits.ensures) ∙ sym c.sees.ensures ∙ c.in-Free.is) c.requires.none
