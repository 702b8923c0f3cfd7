-- What stands for a task's listing keeps standing through the step of another.
use Rattle.std.proofs.Common.{◌≡◌, ℕ, Bool, true, false, ◌⊎◌, inl, inr, ⊎_elim, List, Option, Some, None, refl, sym, ap, ◌∙◌, subst}
use Rattle.std.proofs.lemmas.Bool.{false≢true}
use Rattle.once_machine.specs.Numbers.{member}
use Rattle.once_machine.specs.Record.{Entry, Kind}
use Rattle.once_machine.specs.Tasks.{LastCall, last_call}
use Rattle.once_machine.specs.declared.waiters.Listing.{Listing}
use Rattle.once_machine.specs.Listings.{find_listing}
use Rattle.once_machine.specs.Machine.{SharedState}
use Rattle.once_machine.specs.Wakers.{handed_since}
use Rattle.once_machine.proofs.History.Others.{Keeps}
use Rattle.once_machine.proofs.Invariant.Facts.{HasTicket, IsListed, RestsOn}

-- what the step of another leaves of the listing n of u, which had the waker o, if any: the same, or none if it was woken
abbrev pub IsKept : ℕ → ℕ → Option ℕ → List (Listing ℕ) → List Entry → Type 0
IsKept u n o ys h' = (find_listing n ys ≡ Some o) ⊎ ((w : ℕ) × (o ≡ Some w) × (find_listing n ys ≡ Some None) × (member w (handed_since u h') ≡ true))

-- the same for the ticket k, if u has one
abbrev pub ListKept : ℕ → Option ℕ → SharedState → SharedState → List Entry → Type 0
ListKept u k c c' h' = (n : ℕ) (o : Option ℕ) → k ≡ Some n → c'.ready ≡ false → find_listing n c.listings ≡ Some o → IsKept u n o c'.listings h'

-- a flag that is not set now was not set before
pub was_unset : (a b : Bool) → (a ≡ true → b ≡ true) → b ≡ false → a ≡ false
was_unset true b f e = absurd (false≢true (sym e ∙ f refl))
was_unset false b f e = refl

pub none_not_some : (w : ℕ) → ◌≡◌ {A = Option ℕ} None (Some w) → ⊥
none_not_some w e = cc

pub same_some : (a b : ℕ) → ◌≡◌ {A = Option ℕ} (Some a) (Some b) → a ≡ b
same_some a b e = cc

module _ {K : Kind} {u : ℕ} (c c' : SharedState) {h h' : List Entry} where
  -- a listing
  pub listed_kept : (n : ℕ) (k : Option ℕ) → k ≡ Some n → (c.ready ≡ true → c'.ready ≡ true) → Keeps K u h h'
      → ListKept u k c c' h' → IsListed K u c h n → IsListed K u c' h' n
  listed_kept n k is up kp l a = λ r.
      let same : (last_call K u h').listed ≡ (last_call K u h).listed = ap (λ (x : LastCall). x.listed) kp.call_is in
      rw same (⊎_elim
      (λ f. ⊎_elim (λ g. inl g) (λ g. inr (g.2, subst (λ v. member v (handed_since u h') ≡ true) (sym (same_some (last_call K u h).listed g.0 g.1)) g.3)) (l n (Some (last_call K u h).listed) is r f))
      (λ f. inr (⊎_elim (λ g. g) (λ g. absurd (none_not_some g.0 g.1)) (l n None is r f.0), kp.handed (last_call K u h).listed f.1))
      (a (was_unset c.ready c'.ready up r)))

  -- a ticket in a poll
  pub ticket_kept : (k : Option ℕ) → (c.ready ≡ true → c'.ready ≡ true) → Keeps K u h h' → ListKept u k c c' h' → HasTicket K u c h k → HasTicket K u c' h' k
  ticket_kept None up kp l a = tt
  ticket_kept (Some n) up kp l a = (ap (λ (x : LastCall). x.began) kp.call_is ∙ a.0, listed_kept n (Some n) refl up kp l a.1)

  -- the ticket of a task that waits
  pub rests_kept : (k : Option ℕ) → (c.ready ≡ true → c'.ready ≡ true) → Keeps K u h h' → ListKept u k c c' h' → RestsOn K u c h k → RestsOn K u c' h' k
  rests_kept None up kp l a = a
  rests_kept (Some n) up kp l a = (rw kp.call_is a.0, listed_kept n (Some n) refl up kp l a.1)
