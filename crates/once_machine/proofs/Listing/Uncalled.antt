-- The first listing that was not woken yet: where it stands, and what waking it leaves.
use Rattle.std.proofs.Common.{◌≡◌, ◌<◌, ◌≤◌, ℕ, zero, suc, Bool, true, false, List, [], ◌∷◌, Option, Some, None, length, get_or, set, refl, sym, ap, ◌∙◌, arith}
use Rattle.std.specs.List.{position, position_or_len}
use Rattle.std.specs.Option.{is_some, option_or}
use Rattle.std.proofs.lemmas.Bool.{false≢true}
use Rattle.std.proofs.lemmas.Bool.Decides.{nat_tests}
use Rattle.std.proofs.lemmas.Option.{none-some}
use Rattle.std.proofs.lemmas.List.Quantifiers.{position-Some}
use Rattle.once_machine.specs.Listings.{Listing, call_by, call_first, first_waker, tickets}

module _ {W : Type 0} where
  abbrev pub has_waker : Listing W → Bool
  has_waker x = is_some x.waker

  some_by : (o rest : Option W) → is_some o ≡ true → option_or o rest ≡ o
  some_by (Some w) rest s = refl
  some_by None rest s = absurd (false≢true s)

  none_by : (o rest : Option W) → is_some o ≡ false → option_or o rest ≡ rest
  none_by (Some w) rest s = absurd (false≢true (sym s))
  none_by None rest s = refl

  call_some : (x : Listing W) (o : Option W) (xs rest : List (Listing W)) → is_some o ≡ true
      → record { ticket = x.ticket; waker = None } ∷ xs ≡ call_by x o xs rest
  call_some x (Some w) xs rest s = refl
  call_some x None xs rest s = absurd (false≢true s)

  call_none : (x : Listing W) (o : Option W) (xs rest : List (Listing W)) → is_some o ≡ false → call_by x o xs rest ≡ x ∷ rest
  call_none x (Some w) xs rest s = absurd (false≢true (sym s))
  call_none x None xs rest s = refl

  -- none was left
  none_left : (xs : List (Listing W)) → length xs ≤ position_or_len has_waker xs → (first_waker xs ≡ None) × (call_first xs ≡ xs)
  none_left [] l = (refl, refl)
  none_left (x ∷ xs) l =
      let called : is_some x.waker ≡ false = grind arith in
      let rest = none_left xs (grind arith) in
      (none_by x.waker (first_waker xs) called ∙ rest.0, call_none x x.waker xs (call_first xs) called ∙ ap (λ (ys : List (Listing W)). x ∷ ys) rest.1)

  pub nobody_left : (xs : List (Listing W)) → position has_waker xs ≡ None → (first_waker xs ≡ None) × (call_first xs ≡ xs)
  nobody_left xs e = none_left xs (grind (arith, nat_tests))

  -- the first that was left
  one_left : (i : ℕ) (xs : List (Listing W)) (d : Listing W) → i < length xs → has_waker (get_or xs i d) ≡ true
      → ((k : ℕ) → k < i → has_waker (get_or xs k d) ≡ false)
      → ((get_or xs i d).waker ≡ first_waker xs) × (set xs i (record { ticket = (get_or xs i d).ticket; waker = None }) ≡ call_first xs)
  one_left i [] d l s before = absurd (omega arith)
  one_left zero (x ∷ xs) d l s before = (sym (some_by x.waker (first_waker xs) s), call_some x x.waker xs (call_first xs) s)
  one_left (suc i) (x ∷ xs) d l s before =
      let called = before 0 (omega arith) in
      let rest = one_left i xs d (omega arith) s (λ k m. before (suc k) (omega arith)) in
      (rest.0 ∙ sym (none_by x.waker (first_waker xs) called), ap (λ (ys : List (Listing W)). x ∷ ys) rest.1 ∙ sym (call_none x x.waker xs (call_first xs) called))

  pub first_left : (i : ℕ) (xs : List (Listing W)) (d : Listing W) → position has_waker xs ≡ Some i
      → ((get_or xs i d).waker ≡ first_waker xs) × (set xs i (record { ticket = (get_or xs i d).ticket; waker = None }) ≡ call_first xs)
  first_left i xs d e = let p = position-Some has_waker xs i d e in one_left i xs d p.0 p.1 p.2

  pub first_within : (i : ℕ) (xs : List (Listing W)) → position has_waker xs ≡ Some i → i < length xs
  first_within i [] e = absurd (none-some i e)
  first_within i (x ∷ xs) e = (position-Some has_waker (x ∷ xs) i x e).0

  -- waking it leaves as many
  length_by : (x : Listing W) (xs : List (Listing W)) (o : Option W) → length (call_first xs) ≡ length xs → length (call_by x o xs (call_first xs)) ≡ suc (length xs)
  length_by x xs (Some w) ih = refl
  length_by x xs None ih = ap suc ih

  pub length_call : (xs : List (Listing W)) → length (call_first xs) ≡ length xs
  length_call [] = refl
  length_call (x ∷ xs) = length_by x xs x.waker (length_call xs)

  -- and changes no ticket
  tickets_by : (x : Listing W) (xs : List (Listing W)) (o : Option W) → tickets (call_first xs) ≡ tickets xs
      → tickets (call_by x o xs (call_first xs)) ≡ x.ticket ∷ tickets xs
  tickets_by x xs (Some w) ih = refl
  tickets_by x xs None ih = ap (λ (ns : List ℕ). x.ticket ∷ ns) ih

  pub tickets_call : (xs : List (Listing W)) → tickets (call_first xs) ≡ tickets xs
  tickets_call [] = refl
  tickets_call (x ∷ xs) = tickets_by x xs x.waker (tickets_call xs)
