-- An entry that wakes the first listing, and one after which the value is set: what they leave of the listings.
use Rattle.std.proofs.Common.{◌≡◌, ℕ, true, false, ⊎_elim, inl, inr, List, ◌∷◌, Option, Some, None, refl, sym, ◌∙◌, arith}
use Rattle.std.specs.Option.{option_to_list}
use Rattle.std.proofs.lemmas.Bool.{false≢true}
use Rattle.once_machine.specs.Numbers.{member}
use Rattle.once_machine.specs.Record.{Entry, handed_by, is_of}
use Rattle.once_machine.specs.declared.waiters.Listing.{Listing}
use Rattle.once_machine.specs.Listings.{call_first, find_listing, first_waker}
use Rattle.once_machine.specs.Wakers.{handed_since}
use Rattle.once_machine.specs.Machine.{SharedState}
use Rattle.once_machine.proofs.Listing.Members.{eqb_self, member-append}
use Rattle.once_machine.proofs.Listing.CalledFirst.{call_find}
use Rattle.once_machine.proofs.History.Others.{no_end}
use Rattle.once_machine.proofs.Invariant.Listed.{IsKept, none_not_some}
use Rattle.once_machine.proofs.Invariant.Turns.{ListMoves}

handed_now : (u w : ℕ) (e : Entry) (h : List Entry) → is_of u e ≡ false → member w (handed_by e) ≡ true → member w (handed_since u (e ∷ h)) ≡ true
handed_now u w e h n m = grind (arith, member-append, no_end u e n)

one_member : (w : ℕ) (o : Option ℕ) → o ≡ Some w → member w (option_to_list o) ≡ true
one_member w o e = rw (e, eqb_self w) refl

-- the first listing with a waker is woken by an entry that hands this waker out
pub call_kept : (u n : ℕ) {o : Option ℕ} (xs : List (Listing ℕ)) (e : Entry) (h : List Entry) → is_of u e ≡ false
    → handed_by e ≡ option_to_list (first_waker xs) → find_listing n xs ≡ Some o → IsKept u n o (call_first xs) (e ∷ h)
call_kept u n {o} xs e h is all f = ⊎_elim (λ k. inl k) (λ k. inr (k.0, k.1, k.2, handed_now u k.0 e h is (rw all (one_member k.0 (first_waker xs) k.3)))) (call_find n o xs f)

-- if the value is set afterwards, the listings matter no more
pub ready_lists : (t : ℕ) (k : Option ℕ) (c c' : SharedState) (h' : List Entry) → c'.ready ≡ true → ListMoves t k None c c' h'
ready_lists t k c c' h' e = record {
  up = λ _. e;
  lists = λ u n o d x r f. absurd (false≢true (sym r ∙ e));
  fresh = λ n q. absurd (none_not_some n q);
  owner = λ r n o f. absurd (false≢true (sym r ∙ e));
}
