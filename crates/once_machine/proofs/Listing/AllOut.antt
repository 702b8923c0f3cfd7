-- What a release with the value hands out: each waker of the list once.
use Rattle.std.proofs.Common.{◌≡◌, ◌≤◌, ◌<◌, ◌+◌, ℕ, Bool, true, false, cond, ◌==◌, ⊎_elim, List, [], ◌∷◌, Option, Some, None, refl, sym, subst, arith}
use Rattle.std.proofs.lemmas.Bool.{cases_eq, ne_eqb}
use Rattle.std.proofs.lemmas.Bool.Decides.{nat_tests}
use Rattle.once_machine.specs.Numbers.{bit, is_distinct, member, times_in}
use Rattle.once_machine.specs.declared.waiters.Listing.{Listing}
use Rattle.once_machine.specs.Listings.{all_out, out_by}
use Rattle.once_machine.proofs.Listing.Members.{eqb_self}
use Rattle.once_machine.proofs.Listing.Listings.{asks, is_for}

module _ (k : ℕ) where
  unseen_by : (o : Option ℕ) (xs : List (Listing ℕ)) (seen : List ℕ) → member k seen ≡ true
      → ((s : List ℕ) → member k s ≡ true → member k (all_out xs s) ≡ false)
      → member k (out_by o (all_out xs) seen) ≡ false
  unseen_by None xs seen m ih = ih seen m
  unseen_by (Some w) xs seen m ih = let a = ih seen m in let b = ih (w ∷ seen) (grind arith) in grind (arith, nat_tests)

  -- a waker that was seen is not handed out again
  all_unseen : (xs : List (Listing ℕ)) (seen : List ℕ) → member k seen ≡ true → member k (all_out xs seen) ≡ false
  all_unseen [] seen m = refl
  all_unseen (x ∷ xs) seen m = unseen_by x.waker xs seen m (all_unseen xs)

  due_by : (o : Option ℕ) (xs : List (Listing ℕ)) (seen : List ℕ) → member k seen ≡ false
      → 0 < bit (is_for k o) + asks k xs
      → ((s : List ℕ) → member k s ≡ false → 0 < asks k xs → member k (all_out xs s) ≡ true)
      → member k (out_by o (all_out xs) seen) ≡ true
  due_by None xs seen m l ih = ih seen m (omega arith)
  due_by (Some w) xs seen m l ih = ⊎_elim
      (λ e. let s : member w seen ≡ false = subst (λ v. member v seen ≡ false) (sym e) m in rw (s, e, eqb_self k) refl)
      (λ n. let d = ne_eqb w k n in let q : 0 < bit false + asks k xs = rw d at l in let p : 0 < asks k xs = omega arith in let a = ih seen m p in let b = ih (w ∷ seen) (rw d m) p in grind arith)
      (cases_eq w k)

  -- a waker that a listing has is handed out
  pub all_due : (xs : List (Listing ℕ)) (seen : List ℕ) → member k seen ≡ false → 0 < asks k xs → member k (all_out xs seen) ≡ true
  all_due [] seen m l = absurd (omega arith)
  all_due (x ∷ xs) seen m l = due_by x.waker xs seen m l (all_due xs)

  times_cond : (b : Bool) (w : ℕ) (xs : List (Listing ℕ)) (seen : List ℕ)
      → ((s : List ℕ) → times_in k (all_out xs s) ≤ asks k xs)
      → times_in k (cond b (all_out xs seen) (w ∷ all_out xs (w ∷ seen))) ≤ bit (w == k) + asks k xs
  times_cond true w xs seen ih = let a = ih seen in omega arith
  times_cond false w xs seen ih = let a = ih (w ∷ seen) in omega arith

  times_by : (o : Option ℕ) (xs : List (Listing ℕ)) (seen : List ℕ)
      → ((s : List ℕ) → times_in k (all_out xs s) ≤ asks k xs)
      → times_in k (out_by o (all_out xs) seen) ≤ bit (is_for k o) + asks k xs
  times_by None xs seen ih = let a = ih seen in omega arith
  times_by (Some w) xs seen ih = times_cond (member w seen) w xs seen ih

  -- and no oftener than listings have it
  pub all_times : (xs : List (Listing ℕ)) (seen : List ℕ) → times_in k (all_out xs seen) ≤ asks k xs
  all_times [] seen = omega arith
  all_times (x ∷ xs) seen = times_by x.waker xs seen (all_times xs)

once_by : (o : Option ℕ) (xs : List (Listing ℕ)) (seen : List ℕ) → ((s : List ℕ) → is_distinct (all_out xs s) ≡ true)
    → is_distinct (out_by o (all_out xs) seen) ≡ true
once_by None xs seen ih = ih seen
once_by (Some w) xs seen ih = let a = ih seen in let b = ih (w ∷ seen) in let m = all_unseen w xs (w ∷ seen) (rw (eqb_self w) refl) in grind arith

-- none is handed out twice
pub all_once : (xs : List (Listing ℕ)) (seen : List ℕ) → is_distinct (all_out xs seen) ≡ true
all_once [] seen = refl
all_once (x ∷ xs) seen = once_by x.waker xs seen (all_once xs)

-- what stands in a list stands there some times
pub member_times : (w : ℕ) (xs : List ℕ) → member w xs ≡ true → 0 < times_in w xs
member_times w [] m = grind arith
member_times w (x ∷ xs) m = grind (arith, nat_tests, member_times w xs)
