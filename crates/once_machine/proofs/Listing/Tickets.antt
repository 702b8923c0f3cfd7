-- Lists of listings: which tickets they have, and what taking a listing out, adding one and waking the first leave of them.
use Rattle.std.proofs.Common.{◌≡◌, ◌<◌, ◌≤◌, ℕ, zero, suc, Bool, true, false, cond, ◌==◌, nat_lt, List, [], ◌∷◌, ◌++◌, Option, Some, None, IfSome, length, get_or, refl, sym, ap, ◌∙◌, arith}
use Rattle.std.specs.List.{HoldsAt, position, position_or_len}
use Rattle.std.specs.Option.{is_some, option_map}
use Rattle.std.proofs.lemmas.Bool.{eqb-true}
use Rattle.std.proofs.lemmas.Bool.Decides.{nat_tests}
use Rattle.std.proofs.lemmas.List.Quantifiers.{position-Some}
use Rattle.once_machine.proofs.Listing.Members.{eqb_self, is_distinct-push}
use Rattle.once_machine.specs.Numbers.{is_distinct, member}
use Rattle.once_machine.specs.Listings.{Listing, find_listing, kept_ticket, own_listing, take_out, tickets, with_waker}

kept_listed : (b : Bool) (n : ℕ) → b ≡ is_some (cond b (Some n) None)
kept_listed true n = refl
kept_listed false n = refl

pub mapped_some : {X Y : Type 0} (f : X → Y) (o : Option X) → is_some o ≡ is_some (option_map f o)
mapped_some f (Some x) = refl
mapped_some f None = refl

module _ {W : Type 0} where
  -- a ticket that no listing has
  pub take_none : (n : ℕ) (xs : List (Listing W)) → member n (tickets xs) ≡ false → take_out n xs ≡ xs
  take_none n [] m = refl
  take_none n (x ∷ xs) m = grind (arith, nat_tests, take_none n xs)

  pub find_none : (n : ℕ) (xs : List (Listing W)) → member n (tickets xs) ≡ false → find_listing n xs ≡ None
  find_none n [] m = refl
  find_none n (x ∷ xs) m = grind (arith, nat_tests, find_none n xs)

  -- the place at which a ticket stands
  pub at_member : (n i : ℕ) (xs : List (Listing W)) (d : Listing W) → i < length xs → (get_or xs i d).ticket ≡ n → member n (tickets xs) ≡ true
  at_member n i [] d l e = absurd (omega arith)
  at_member n zero (x ∷ xs) d l e = grind (arith, nat_tests)
  at_member n (suc i) (x ∷ xs) d l e = let ih = at_member n i xs d (omega arith) e in grind arith

  -- where the first listing with a ticket stands, if one does
  first_member : (n : ℕ) (xs : List (Listing W)) → member n (tickets xs) ≡ nat_lt (position_or_len (λ x. x.ticket == n) xs) (length xs)
  first_member n [] = refl
  first_member n (x ∷ xs) = let ih = first_member n xs in grind (arith, nat_tests)

  some_by : (o : Option (Listing W)) (v : Option (Option W)) → option_map (λ x. x.waker) o ≡ v → is_some o ≡ is_some v
  some_by (Some x) v e = ap is_some e
  some_by None v e = ap is_some e

  pub placed_none : (n : ℕ) (xs : List (Listing W)) → position (λ x. x.ticket == n) xs ≡ None → member n (tickets xs) ≡ false
  placed_none n xs e = let m = first_member n xs in grind arith

  pub placed : (n i : ℕ) (xs : List (Listing W)) → position (λ x. x.ticket == n) xs ≡ Some i → (i < length xs) × HoldsAt (λ x. x.ticket ≡ n) xs i
  placed n i [] e = grind arith
  placed n i (x ∷ xs) e = ((position-Some (λ y. y.ticket == n) (x ∷ xs) i x e).0, λ d. eqb-true (get_or (x ∷ xs) i d).ticket n (position-Some (λ y. y.ticket == n) (x ∷ xs) i d e).1)

  -- a ticket stands in the list exactly if its listing is found
  find_member : (n : ℕ) (xs : List (Listing W)) → is_some (find_listing n xs) ≡ member n (tickets xs)
  find_member n [] = refl
  find_member n (x ∷ xs) = let ih = find_member n xs in grind (arith, nat_tests)

  pub found_ticket : (n : ℕ) (o : Option W) (xs : List (Listing W)) → find_listing n xs ≡ Some o → member n (tickets xs) ≡ true
  found_ticket n o xs e = sym (find_member n xs) ∙ ap is_some e

  pub found_kept : (n : ℕ) (o : Option (Listing W)) (xs : List (Listing W))
      → option_map (λ x. x.waker) o ≡ find_listing n xs → is_some o ≡ is_some (kept_ticket (Some n) xs)
  found_kept n o xs e = some_by o (find_listing n xs) e ∙ find_member n xs ∙ kept_listed (member n (tickets xs)) n

  pub kept_none : (k : Option ℕ) (xs : List (Listing W)) → own_listing k xs ≡ None → kept_ticket k xs ≡ None
  kept_none None xs e = refl
  kept_none (Some n) xs e = rw (sym (find_member n xs), e) refl

  pub kept_some : (n : ℕ) (w : Option W) (xs : List (Listing W)) → find_listing n xs ≡ Some w → kept_ticket (Some n) xs ≡ Some n
  kept_some n w xs e = rw (sym (find_member n xs), e) refl

  pub own_none : (k : Option ℕ) (xs : List (Listing W)) → is_some (kept_ticket k xs) ≡ false → own_listing k xs ≡ None
  own_none None xs e = refl
  own_none (Some n) xs e = find_none n xs (kept_listed (member n (tickets xs)) n ∙ e)

  -- the tickets that are left
  pub member_take : (m n : ℕ) (xs : List (Listing W)) → member m (tickets (take_out n xs)) ≡ cond (n == m) false (member m (tickets xs))
  member_take m n [] = grind arith
  member_take m n (x ∷ xs) = let ih = member_take m n xs in grind (arith, nat_tests)

  pub once_take : (n : ℕ) (xs : List (Listing W)) → is_distinct (tickets xs) ≡ true → is_distinct (tickets (take_out n xs)) ≡ true
  once_take n [] e = refl
  once_take n (x ∷ xs) e = grind (arith, nat_tests, once_take n xs, member_take x.ticket n xs)

  pub take_length : (n : ℕ) (xs : List (Listing W)) → length (take_out n xs) ≤ length xs
  take_length n [] = omega arith
  take_length n (x ∷ xs) = let ih = take_length n xs in grind arith

  pub tickets_push : (x : Listing W) (xs : List (Listing W)) → tickets (xs ++ x ∷ []) ≡ tickets xs ++ x.ticket ∷ []
  tickets_push x [] = refl
  tickets_push x (y ∷ xs) = ap (λ (ns : List ℕ). y.ticket ∷ ns) (tickets_push x xs)

  pub member_push : (n : ℕ) (x : Listing W) (xs : List (Listing W)) → member n (tickets (xs ++ x ∷ [])) ≡ cond (x.ticket == n) true (member n (tickets xs))
  member_push n x [] = refl
  member_push n x (y ∷ xs) = let ih = member_push n x xs in grind (arith, nat_tests)

  pub once_push : (x : Listing W) (xs : List (Listing W)) → member x.ticket (tickets xs) ≡ false
      → is_distinct (tickets xs) ≡ true → is_distinct (tickets (xs ++ x ∷ [])) ≡ true
  once_push x xs new once = rw (tickets_push x xs) (is_distinct-push x.ticket (tickets xs) new once)

  pub member_gone : (n : ℕ) (xs : List (Listing W)) → member n (tickets (take_out n xs)) ≡ false
  member_gone n xs = rw (member_take n n xs, eqb_self n) refl

  -- another waker changes no ticket
  renewed_by : (b : Bool) (w : W) (x : Listing W) (xs ys : List (Listing W)) → tickets ys ≡ tickets xs
      → tickets (cond b (record { ticket = x.ticket; waker = Some w } ∷ xs) (x ∷ ys)) ≡ x.ticket ∷ tickets xs
  renewed_by true w x xs ys e = refl
  renewed_by false w x xs ys e = ap (λ (ns : List ℕ). x.ticket ∷ ns) e

  pub tickets_renewed : (n : ℕ) (w : W) (xs : List (Listing W)) → tickets (with_waker n w xs) ≡ tickets xs
  tickets_renewed n w [] = refl
  tickets_renewed n w (x ∷ xs) = renewed_by (x.ticket == n) w x xs (with_waker n w xs) (tickets_renewed n w xs)

  -- and leaves as many
  length_by : (b : Bool) (w : W) (x : Listing W) (xs ys : List (Listing W)) → length ys ≡ length xs
      → length (cond b (record { ticket = x.ticket; waker = Some w } ∷ xs) (x ∷ ys)) ≡ suc (length xs)
  length_by true w x xs ys e = refl
  length_by false w x xs ys e = ap suc e

  pub length_renewed : (n : ℕ) (w : W) (xs : List (Listing W)) → length (with_waker n w xs) ≡ length xs
  length_renewed n w [] = refl
  length_renewed n w (x ∷ xs) = length_by (x.ticket == n) w x xs (with_waker n w xs) (length_renewed n w xs)

  -- a place that a search found
  pub placed_by : (n h : ℕ) (xs : List (Listing W)) (o : Option ℕ) → o ≡ position (λ x. x.ticket == n) xs
      → (n == h) ≡ false → IfSome o (λ i. (i < length xs) × HoldsAt (λ x. x.ticket ≡ n) xs i × ((n == h) ≡ false))
  placed_by n h xs (Some i) e d = let p = placed n i xs (sym e) in (p.0, p.1, d)
  placed_by n h xs None e d = tt
