-- What a release is, and what it leaves.
use Rattle.std.proofs.Common.{◌≡◌, ◌≢◌, ◌<◌, ℕ, Bool, true, false, ◌==◌, ◌⊎◌, inr, List, ◌∷◌, refl, sym, ap, ◌∙◌, arith}
use Rattle.std.proofs.lemmas.Grind.{common_steps}
use Rattle.std.specs.Prelude.{◌-◌}
use Rattle.std.proofs.lemmas.Bool.{false≢true, eqb-true}
use Rattle.std.proofs.lemmas.Bool.Decides.{nat_tests}
use Rattle.once_machine.specs.Record.{Answer, Entry, Fill, Free, Kind, handed_by, is_of, is_own, made_in}
use Rattle.once_machine.specs.Cell.{Cell, cell}
use Rattle.once_machine.specs.Tasks.{LastCall, Status, Waiting, is_under_way, last_call, last_call_after, status, status_after}
use Rattle.once_machine.specs.declared.waiters.Listing.{Listing}
use Rattle.once_machine.specs.Wakers.{CallsOne, HandsOut}
use Rattle.once_machine.specs.Run.{IsLegal}
use Rattle.once_machine.specs.Machine.{EndValue, Ending, SharedState, out_shared, is_value, release_entry, release_flags, word_of}
use Rattle.once_machine.proofs.Listing.Members.{eqb_self}
use Rattle.once_machine.proofs.History.Cells.{held_by}
use Rattle.once_machine.proofs.Invariant.Facts.{HeadFlag, Owes, QuickFlag, Releasing, kept_of}
use Rattle.once_machine.proofs.Invariant.Around.{releasing_acts}
use Rattle.once_machine.specs.Word.{is_quick_bit, is_ready_bit}

-- the word is exactly the quick bit
pub exact : (c : SharedState) → is_quick_bit (word_of c) ≡ true → c.count ≡ 0
exact c e = grind (arith, nat_tests)

-- if it is not, while t holds by the quick bit, some task is in the count
pub inexact : (c : SharedState) → c.ready ≡ false → c.quick ≡ true → is_quick_bit (word_of c) ≡ false → 0 < c.count
inexact c r q e = grind (arith, nat_tests)

-- the word will be exactly the ready bit
pub exact_out : (c : SharedState) → is_ready_bit (word_of (out_shared c)) ≡ true → (c.count - 1 ≡ 0) × (c.ready ≡ true)
exact_out c e = grind (arith, nat_tests)

-- a call that ends with the value fills the cell with what its init gave
pub fills : (K : Kind) (t : ℕ) (h : List Entry) (c : SharedState) (k : Answer) (X : List ℕ)
    → k ≡ kept_of (last_call K t h).ran → (r : Releasing K t h c EndValue) → release_entry k t X ≡ Fill t r.0 X
fills K t h c k X a r = ap (λ x. release_entry x t X) (a ∙ ap kept_of r.1.ran_is)

-- another call frees it
pub frees : (K : Kind) (t : ℕ) (h : List Entry) (c : SharedState) (k : Answer) (X : List ℕ) (e : Ending)
    → is_value e ≡ false → k ≡ kept_of (last_call K t h).ran → Releasing K t h c e → release_entry k t X ≡ Free t X
frees K t h c k X e n a r = grind (arith, nat_tests, common_steps)

-- what stands in a call that freed the cell
pub freed_owes : (K : Kind) (t : ℕ) (h : List Entry) (c : SharedState) (X : List ℕ) (e : Ending) → is_value e ≡ false
    → Releasing K t h c e → Owes K t (Free t X ∷ h) e
freed_owes K t h c X e n r = grind (arith, nat_tests, common_steps)

-- what stands in a call that filled it
pub filled_owes : (K : Kind) (t : ℕ) (h : List Entry) (c : SharedState) (X : List ℕ) → (r : Releasing K t h c EndValue) → Owes K t (Fill t r.0 X ∷ h) EndValue
filled_owes K t h c X r = (rw (eqb_self t) r.1.status_is, (r.0, refl, inr (rw (eqb_self t) r.1.ran_is)), rw (eqb_self t) r.1.unpassed)

-- t may free the cell
pub free_legal : (K : Kind) (limit t : ℕ) (h : List Entry) (c : SharedState) (X : List ℕ) (e : Ending)
    → is_value e ≡ false → Releasing K t h c e → CallsOne K X h → IsLegal K limit (Free t X) h
free_legal K limit t h c X e n r o = grind (arith, nat_tests, common_steps, held_by)

-- t may fill it
pub fill_legal : (K : Kind) (limit t : ℕ) (h : List Entry) (c : SharedState) (X : List ℕ)
    → (r : Releasing K t h c EndValue) → HandsOut K X h → IsLegal K limit (Fill t r.0 X) h
fill_legal K limit t h c X r o = (held_by t (cell K h) r.1.holds_is, r.1.status_is, r.1.ran_is, o)

-- a task that acts does not wait
under_way_awake : {s : Status} → is_under_way s ≡ true → s ≢ Waiting
under_way_awake a w = false≢true (sym (ap is_under_way w) ∙ a)

-- a task that releases does not wait
pub releasing_awake : (K : Kind) (t u : ℕ) (h : List Entry) (c : SharedState) (e : Ending) → Releasing K t h c e → (t == u) ≡ true → status K u h ≢ Waiting
releasing_awake K t u h c e r same w = under_way_awake (releasing_acts K t c h e r) (ap (λ v. status K v h) (eqb-true t u same) ∙ w)

-- what is shared after a release: the flags are cleared, these listings are left, and ready stands for a value
pub record Cleared (c c' : SharedState) (r : Bool) (xs : List (Listing ℕ)) : Type 0 where
  pub quick_is : c'.quick ≡ false
  pub head_is : c'.head ≡ false
  pub ready_is : c'.ready ≡ r
  pub listings_is : c'.listings ≡ xs
  pub door_is : c'.door ≡ c.door
  pub count_is : c'.count ≡ c.count
  pub value_is : c'.value ≡ c.value
  pub answers_is : c'.answers ≡ c.answers

-- a release clears the flags
pub cleared : (b : Bool) (c : SharedState) (r : Bool) (xs : List (Listing ℕ)) → c.quick ≡ b
    → QuickFlag c ⊎ HeadFlag c → Cleared c (record (release_flags b r c) { listings = xs }) r xs
cleared b c r xs e f = grind (arith, nat_tests, common_steps)

-- an entry by which t gives the right back and hands X out
pub record IsRelease (t : ℕ) (X : List ℕ) (e : Entry) : Type 0 where
  pub hands : handed_by e ≡ X
  pub of : (u : ℕ) → is_of u e ≡ (t == u)
  pub status_is : (c : Cell) (s : Status) → status_after e c s ≡ s
  pub waker_is : (c : Cell) (s : Status) (k : LastCall) → (last_call_after e c s k).waker ≡ k.waker
  pub ran_is : (c : Cell) (s : Status) (k : LastCall) → (last_call_after e c s k).ran ≡ k.ran
  pub owns : is_own e ≡ false
  pub made : (h : List Entry) → made_in (e ∷ h) ≡ made_in h

-- a filling is a release
pub fill_releases : (t v : ℕ) (X : List ℕ) → IsRelease t X (Fill t v X)
fill_releases t v X = record { hands = refl; of = λ u. refl; status_is = λ x s. refl; waker_is = λ x s y. refl; ran_is = λ x s y. refl; owns = refl; made = λ x. refl }

-- so is a freeing
pub free_releases : (t : ℕ) (X : List ℕ) → IsRelease t X (Free t X)
free_releases t X = record { hands = refl; of = λ u. refl; status_is = λ x s. refl; waker_is = λ x s y. refl; ran_is = λ x s y. refl; owns = refl; made = λ x. refl }
