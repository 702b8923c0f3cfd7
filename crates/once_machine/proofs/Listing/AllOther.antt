-- Listings of which each two wakers were told to be other.
use Rattle.std.proofs.Common.{◌≡◌, ◌<◌, ◌⊎◌, ℕ, suc, Bool, true, false, ◌||◌, List, [], ◌∷◌, ◌++◌, Option, Some, None, All, IfSome}
use Rattle.std.proofs.Common.{length, get_or, set, refl, inl, inr, sym, ap, subst, arith, cond, not, ◌==◌, filter}
use mathlib.Core.Logic.{∥∥₁_map}
use Rattle.std.specs.List.{AllPairs, position, cons_option}
use Rattle.std.proofs.lemmas.Bool.{false≢true, cases_eq}
use Rattle.std.proofs.lemmas.List.{get_or-set_other, get_or-set_same, length-set}
use Rattle.std.proofs.lemmas.List.Quantifiers.{all_pairs_push}
use Rattle.std.proofs.lemmas.List.Elements.{All-filter}
use Rattle.std.proofs.lemmas.List.Kept.{AllPairs-filter}
use Rattle.once_machine.specs.Listings.{Listing, call_first, take_out}
use Rattle.once_machine.specs.Sections.{AreApart, HandsAll, HandsBy, IsOther}
use Rattle.once_machine.proofs.Listing.Repeats.{other_by}
use Rattle.once_machine.proofs.Listing.Uncalled.{first_left, first_within, has_waker, nobody_left}

taken_by : {X : Type 0} (b : Bool) (x : X) (ys zs : List X) → ys ≡ zs → cond (not b) (x ∷ ys) ys ≡ cond b zs (x ∷ zs)
taken_by true x ys zs e = e
taken_by false x ys zs e = ap (λ l. x ∷ l) e

module _ {W : Type 0} (other : W → W → Type 0) where
  -- nothing is asked of a listing that was woken
  apart_none : (z y : Listing W) (o : Option W) → z.waker ≡ None → y.waker ≡ o → AreApart other z y
  apart_none z y (Some w) none is = rw (is, none) tt
  apart_none z y None none is = rw is tt

  apart_set : (z : Listing W) (i j k : ℕ) (xs : List (Listing W)) (d : Listing W) → z.waker ≡ None → i < length xs
      → j < k → k < length xs → AllPairs (AreApart other) xs
      → (j ≡ i) ⊎ (j ≡ i → ⊥) → (k ≡ i) ⊎ (k ≡ i → ⊥) → AreApart other (get_or (set xs i z) j d) (get_or (set xs i z) k d)
  apart_set z i j k xs d none li l lk apart (inl s) t = rw (s, get_or-set_same xs i z d li) (apart_none z (get_or (set xs i z) k d) (get_or (set xs i z) k d).waker none refl)
  apart_set z i j k xs d none li l lk apart (inr s) (inl t) = rw (t, get_or-set_same xs i z d li, none) tt
  apart_set z i j k xs d none li l lk apart (inr s) (inr t) = rw (get_or-set_other xs i j z d s, get_or-set_other xs i k z d t) (apart j k d l lk)

  pub apart_called : (i : ℕ) (xs : List (Listing W)) (z : Listing W) → z.waker ≡ None → i < length xs
      → AllPairs (AreApart other) xs → AllPairs (AreApart other) (set xs i z)
  apart_called i xs z none li apart j k d l lk =
      let s = length-set xs i z in
      apart_set z i j k xs d none li l (omega arith) apart (cases_eq j i) (cases_eq k i)

  -- one is taken out
  taken_filter : (n : ℕ) (xs : List (Listing W)) → filter (λ x. not (x.ticket == n)) xs ≡ take_out n xs
  taken_filter n [] = refl
  taken_filter n (x ∷ xs) = taken_by (x.ticket == n) x (filter (λ y. not (y.ticket == n)) xs) (take_out n xs) (taken_filter n xs)

  pub apart_taken : (n : ℕ) (xs : List (Listing W)) → AllPairs (AreApart other) xs → AllPairs (AreApart other) (take_out n xs)
  apart_taken n xs apart = subst (AllPairs (AreApart other)) (taken_filter n xs) (AllPairs-filter (AreApart other) (λ x. not (x.ticket == n)) xs apart)

  -- the first is woken
  first_by_place : (o : Option ℕ) (xs : List (Listing W)) → o ≡ position has_waker xs → AllPairs (AreApart other) xs → AllPairs (AreApart other) (call_first xs)
  first_by_place None xs e apart = rw (nobody_left xs (sym e)).1 apart
  first_by_place (Some i) [] e apart = apart
  first_by_place (Some i) (x ∷ xs) e apart =
      let left = first_left i (x ∷ xs) x (sym e) in
      subst (AllPairs (AreApart other)) left.1 (apart_called i (x ∷ xs) (record { ticket = (get_or (x ∷ xs) i x).ticket; waker = None }) refl (first_within i (x ∷ xs) (sym e)) apart)

  pub apart_first : (xs : List (Listing W)) → AllPairs (AreApart other) xs → AllPairs (AreApart other) (call_first xs)
  apart_first xs apart = first_by_place (position has_waker xs) xs refl apart

  -- a new waker that was told to be other than each
  other_at : (k : ℕ) (xs : List (Listing W)) (d : Listing W) (o : Option W) → k < length xs
      → IfSome o (λ w. All (λ x. IfSome x.waker (λ v. other v w)) xs)
      → IfSome o (λ w. IfSome (get_or xs k d).waker (λ v. other v w))
  other_at k xs d (Some w) l all = all k d l
  other_at k xs d None l all = tt

  -- it is other than each that is kept
  pub other_kept : (p : Listing W → Bool) (o : Option W) (xs : List (Listing W))
      → IfSome o (λ w. All (λ x. IfSome x.waker (λ v. other v w)) xs)
      → IfSome o (λ w. All (λ x. IfSome x.waker (λ v. other v w)) (filter p xs))
  other_kept p (Some w) xs all = All-filter p (λ x. IfSome x.waker (λ v. other v w)) xs all
  other_kept p None xs all = tt

  apart_pushed : (xs : List (Listing W)) (y : Listing W) → AllPairs (AreApart other) xs
      → IfSome y.waker (λ w. All (λ x. IfSome x.waker (λ v. other v w)) xs) → AllPairs (AreApart other) (xs ++ y ∷ [])
  apart_pushed xs y apart all = all_pairs_push (AreApart other) xs y apart (λ k d l. other_at k xs d y.waker l all)

  -- the same, if none of the comparisons until now and of those with the new one told two to be the same
  pub apart_listed : (mixed repeats : Bool) (xs : List (Listing W)) (y : Listing W) → (mixed || repeats) ≡ false
      → (mixed ≡ false → ∥ AllPairs (AreApart other) xs ∥₁)
      → (repeats ≡ false → IfSome y.waker (λ w. All (λ x. IfSome x.waker (λ v. other v w)) xs)) → ∥ AllPairs (AreApart other) (xs ++ y ∷ []) ∥₁
  apart_listed false false xs y e apart new = ∥∥₁_map (apart refl) (λ a. apart_pushed xs y a (new refl))
  apart_listed false true xs y e apart new = absurd (false≢true (sym e))
  apart_listed true repeats xs y e apart new = absurd (false≢true (sym e))

  -- if each two wakers are other, those of all listings are
  each_apart : (o p : Option W) → ((a b : W) → other a b) → IfSome p (λ w. IfSome o (λ v. other v w))
  each_apart (Some v) (Some w) all = all v w
  each_apart None (Some w) all = tt
  each_apart o None all = tt

  -- a list that counts as mixed unless each two wakers are other has them apart while it does not count so
  pub apart_renewed : (mixed all : Bool) (xs : List (Listing W)) → (mixed || not all) ≡ false → (all ≡ true → (a b : W) → other a b)
      → ∥ AllPairs (AreApart other) xs ∥₁
  apart_renewed false true xs e each = ∣ (λ j k d l lk. each_apart (get_or xs j d).waker (get_or xs k d).waker (each refl)) ∣₁
  apart_renewed false false xs e each = absurd (false≢true (sym e))
  apart_renewed true all xs e each = absurd (false≢true (sym e))

module _ {W : Type 0} (same other : W → W → Type 0) where
  -- the wakers that were seen are other than each of the list
  abbrev AreNew : List W → List (Listing W) → Type 0
  AreNew seen xs = All (λ x. IfSome x.waker (λ w. IsOther other w seen)) xs

  hands_by : (o : Option W) (seen : List W) → IfSome o (λ w. IsOther other w seen) → HandsBy same other seen o o
  hands_by (Some w) seen new = inr (refl, new)
  hands_by None seen new = refl

  new_by : (o p : Option W) (seen : List W) → IfSome p (λ w. IfSome o (λ v. other v w))
      → IfSome p (λ w. IsOther other w seen) → IfSome p (λ w. IsOther other w (cons_option o seen))
  new_by o (Some w) seen apart new = other_by other w o seen apart new
  new_by o None seen apart new = tt

  hands_new : (xs : List (Listing W)) (seen : List W) → AllPairs (AreApart other) xs → AreNew seen xs → HandsAll same other seen xs xs
  hands_new [] seen apart new = tt
  hands_new (x ∷ xs) seen apart new = (
    refl,
    hands_by x.waker seen (new 0 x (omega arith)),
    hands_new xs (cons_option x.waker seen) (λ j k d l m. apart (suc j) (suc k) d (omega arith) (omega arith))
        (λ k d l. new_by x.waker (get_or xs k d).waker seen (apart 0 (suc k) d (omega arith) (omega arith)) (new (suc k) d (omega arith))),
  )

  new_none : (o : Option W) → IfSome o (λ w. IsOther other w [])
  new_none (Some w) = λ k d l. absurd (omega arith)
  new_none None = tt

  -- then all are handed out as they are
  pub hands_apart : (xs : List (Listing W)) → AllPairs (AreApart other) xs → HandsAll same other [] xs xs
  hands_apart xs apart = hands_new xs [] apart (λ k d l. new_none (get_or xs k d).waker)
