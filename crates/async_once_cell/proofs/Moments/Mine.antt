-- The entries of one task among those of a log: a step of a task adds to its own, and to no others.
use Rattle.std.proofs.Common.{◌≡◌, ℕ, zero, suc, Bool, true, false, List, [], ◌∷◌, ◌++◌, Option, reverse, refl, sym, ap, subst, arith}
use Rattle.std.proofs.lemmas.Bool.Decides.{nat_tests}
use Rattle.std.proofs.lemmas.Grind.{common_steps}
use Rattle.std.proofs.lemmas.List.{reverse-append}
use Rattle.pagebook.specs.Pages.{Apart, Held}
use Rattle.once_machine.specs.declared.waiters.Listing.{Listing}
use Rattle.once_machine.proofs.Listing.Members.{eqb_self}
use Rattle.once_machine.specs.Table.{Next}
use Rattle.once_machine.specs.declared.step.Progress.{Progress}
use Rattle.once_machine.specs.declared.step.Progress.TheVariants.{More, Ended}
use Rattle.once_machine.specs.declared.step.Ending.TheVariants.{Pending as EndPending}
use Rattle.once_machine.specs.Record.{Entry, Look, is_of}
use Rattle.once_machine.specs.declared.record.Ran.{Ran as Answer}
use Rattle.once_machine.specs.declared.record.Ran.TheVariants.{Pending as RanPending}
use Rattle.once_machine.specs.Book.{Page, TaskState}
use Rattle.once_machine.specs.Machine.{claim_entries, drop_entries, freed_entries, pass_entries, progress_entries, release_entry}
use Rattle.once_machine.specs.declared.step.Step.{Step}
use Rattle.once_machine.specs.declared.step.Step.TheVariants.{Resting, UnderWay, Finished}
use Rattle.once_machine.proofs.Moment.Step.{told}
use Rattle.async_once_cell.specs.Kept.{entries_of, entries_on, hand, locked}

-- the entries of the one list and then of the other
pub entries_append : (t : ℕ) (xs ys : List Entry) → entries_of t (xs ++ ys) ≡ entries_of t xs ++ entries_of t ys
entries_append t [] ys = refl
entries_append t (e ∷ xs) ys = grind (arith, common_steps, entries_append t xs ys)

-- the same by the page
pub on_append : (k : ℕ) (xs ys : List Entry) → entries_on k (xs ++ ys) ≡ entries_on k xs ++ entries_on k ys
on_append zero xs ys = refl
on_append (suc zero) xs ys = refl
on_append (suc (suc t)) xs ys = entries_append t xs ys

-- each of these entries is the task's
abbrev pub AreOf : ℕ → List Entry → Type 0
AreOf t [] = Unit {0}
AreOf t (e ∷ es) = (is_of t e ≡ true) × AreOf t es

-- so all of them are its entries
pub all_of : (t : ℕ) (es : List Entry) → AreOf t es → entries_of t es ≡ es
all_of t [] a = refl
all_of t (e ∷ es) a = grind (arith, common_steps, all_of t es)

-- an entry of one task is none of another's
other_of : (t u : ℕ) → (u ≡ t → ⊥) → (e : Entry) → is_of t e ≡ true → is_of u e ≡ false
other_of t u n e a = grind (arith, nat_tests, common_steps)

-- so they are none of another's
pub none_of : (t u : ℕ) → (u ≡ t → ⊥) → (es : List Entry) → AreOf t es → entries_of u es ≡ []
none_of t u n [] a = refl
none_of t u n (e ∷ es) a = grind (arith, common_steps, other_of t u n e, none_of t u n es)

-- some and then others
are_append : (t : ℕ) (xs ys : List Entry) → AreOf t xs → AreOf t ys → AreOf t (xs ++ ys)
are_append t [] ys a b = b
are_append t (e ∷ xs) ys a b = (a.0, are_append t xs ys a.1 b)

-- in the other order
pub are_reversed : (t : ℕ) (es : List Entry) → AreOf t es → AreOf t (reverse es)
are_reversed t [] a = tt
are_reversed t (e ∷ es) a = subst (AreOf t) (sym (reverse-append (e ∷ []) es)) (are_append t (reverse es) (e ∷ []) (are_reversed t es a.1) (a.0, tt))

module _ (t : ℕ) where
  -- one entry of t
  pub one_of : (e : Entry) → is_of t e ≡ true → AreOf t (e ∷ [])
  one_of e a = (a, tt)

  -- the end of a call of t
  end_of : (r : Progress) (k : Answer) → AreOf t (progress_entries r t 0 k)
  end_of More k = tt
  end_of (Ended EndPending) k = (eqb_self t, tt)
  end_of (Ended _) k = (eqb_self t, tt)

  -- the entries of a step of t, which did these
  pub told_of : (k : Answer) (next : Next ℕ ℕ) (did : List Entry) → AreOf t did → AreOf t (told t k next did)
  told_of k next did a = are_reversed t (progress_entries next.progress t 0 k ++ did) (are_append t (progress_entries next.progress t 0 k) did (end_of next.progress k) a)

  pub claim_of : (b : Bool) → AreOf t (claim_entries b t)
  claim_of true = (eqb_self t, tt)
  claim_of false = tt

  pub release_of : (k : Answer) (X : List ℕ) → AreOf t (release_entry k t X ∷ [])
  release_of RanPending X = (eqb_self t, tt)
  release_of _ X = (eqb_self t, tt)

  pub freed_of : (b : Bool) (k : Answer) → AreOf t (freed_entries b t k)
  freed_of true k = release_of k []
  freed_of false k = tt

  pub pass_of : (X : List ℕ) → AreOf t (pass_entries t X)
  pass_of [] = tt
  pass_of (w ∷ X) = (eqb_self t, tt)

  pub drop_of : (s : Step ℕ ℕ) → AreOf t (reverse (drop_entries t s))
  drop_of Finished = (eqb_self t, (eqb_self t, tt))
  drop_of (Resting r) = (eqb_self t, tt)
  drop_of (UnderWay p) = (eqb_self t, tt)

-- these entries are of nobody but the tasks whose pages are in the hand
abbrev pub OnlyOf : Held Page → List Entry → Type 0
OnlyOf h es = (k : ℕ) → Apart k h → entries_on k es ≡ []

-- if the hand is a task's
pub only_hand : (t : ℕ) (x : TaskState) (es : List Entry) → AreOf t es → OnlyOf (hand t x) es
only_hand t x es a zero n = refl
only_hand t x es a (suc zero) n = refl
only_hand t x es a (suc (suc u)) n = none_of t u (λ e. n.0 (ap (λ j. suc (suc j)) e)) es a

-- and if it has what lies under the lock besides
pub only_locked : (made : ℕ) (door : Option ℕ) (head : Bool) (xs : List (Listing ℕ)) (t : ℕ) (x : TaskState) (es : List Entry) → AreOf t es → OnlyOf (locked made door head xs t x) es
only_locked made door head xs t x es a zero n = refl
only_locked made door head xs t x es a (suc zero) n = refl
only_locked made door head xs t x es a (suc (suc u)) n = none_of t u (λ e. n.1.1.0 (ap (λ j. suc (suc j)) e)) es a

-- a look is nobody's
pub only_look : (h : Held Page) (found : Option ℕ) → OnlyOf h (Look found ∷ [])
only_look h found zero n = refl
only_look h found (suc zero) n = refl
only_look h found (suc (suc u)) n = refl
