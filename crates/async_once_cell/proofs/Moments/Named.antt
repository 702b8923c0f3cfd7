-- Each word of a list of waiters says of the named list what it says of the list itself.
use Rattle.std.proofs.Common.{◌≡◌, ℕ, Bool, cond, List, [], ◌∷◌, ◌++◌, map, Option, Some, None, refl, ap, ◌∙◌, arith}
use Rattle.std.specs.Option.{is_some, option_flatten, option_map, unwrap_or}
use Rattle.std.proofs.lemmas.Grind.{common_steps}
use Rattle.once_machine.specs.Numbers.{member}
use Rattle.once_machine.specs.declared.waiters.Listing.{Listing}
use Rattle.once_machine.specs.Listings.{above_each, call_first, find_listing, first_waker, kept_ticket, least_from, left_list, list_with}
use Rattle.once_machine.specs.Listings.{list_without, next_waker, own_listing, passes_turn, take_out, ticket_for, tickets, wakers_of, with_waker}
use Rattle.async_once_cell.specs.Inner.Named.{named, named_listing}

module _ {W : Type 0} (whose : W → ℕ) where
  -- the same tickets
  pub tickets_named : (xs : List (Listing W)) → tickets (named whose xs) ≡ tickets xs
  tickets_named [] = refl
  tickets_named (x ∷ xs) = ap (λ (ns : List ℕ). x.ticket ∷ ns) (tickets_named xs)

  -- the same ticket is kept
  pub kept_named : (k : Option ℕ) (xs : List (Listing W)) → kept_ticket k (named whose xs) ≡ kept_ticket k xs
  kept_named None xs = refl
  kept_named (Some n) xs = ap (λ ns. cond (member n ns) (Some n) None) (tickets_named xs)

  -- and the same one is given
  pub ticket_named : (k : Option ℕ) (xs : List (Listing W)) → ticket_for k (named whose xs) ≡ ticket_for k xs
  ticket_named k xs = λ i. unwrap_or (kept_named k xs i) (least_from (above_each (tickets_named xs i)) 0 (tickets_named xs i))

  -- the listing of a ticket
  pub find_named : (n : ℕ) (xs : List (Listing W)) → find_listing n (named whose xs) ≡ option_map (option_map whose) (find_listing n xs)
  find_named n [] = refl
  find_named n (x ∷ xs) = grind (arith, common_steps, find_named n xs)

  -- a waker that was renewed and stayed the same task's
  pub named_renewed : (n : ℕ) (v w : W) (xs : List (Listing W)) → find_listing n xs ≡ Some (Some v) → whose w ≡ whose v
      → named whose (with_waker n w xs) ≡ named whose xs
  named_renewed n v w [] is own = refl
  named_renewed n v w (x ∷ xs) is own = grind (arith, common_steps, named_renewed n v w xs)

  -- the own listing
  own_named : (k : Option ℕ) (xs : List (Listing W)) → own_listing k (named whose xs) ≡ option_map (option_map whose) (own_listing k xs)
  own_named k xs = grind (arith, common_steps, find_named)

  -- whether it has a waker
  pub uncalled_named : (k : Option ℕ) (xs : List (Listing W)) → is_some (option_flatten (own_listing k (named whose xs))) ≡ is_some (option_flatten (own_listing k xs))
  uncalled_named k xs = grind (arith, common_steps, own_named)

  -- whether a task that leaves passes its turn on
  pub passes_named : (free : Bool) (n : ℕ) (xs : List (Listing W)) → passes_turn free n (named whose xs) ≡ passes_turn free n xs
  passes_named free n xs = grind (arith, common_steps, find_named)

  -- the list without a ticket
  pub take_named : (n : ℕ) (xs : List (Listing W)) → take_out n (named whose xs) ≡ named whose (take_out n xs)
  take_named n [] = refl
  take_named n (x ∷ xs) = grind (arith, common_steps, take_named n xs)

  -- the same, if there may be no ticket
  pub without_named : (k : Option ℕ) (xs : List (Listing W)) → list_without k (named whose xs) ≡ named whose (list_without k xs)
  without_named k xs = grind (arith, common_steps, take_named)

  -- one goes to the end
  push_named : (xs : List (Listing W)) (x : Listing W) → named whose xs ++ named_listing whose x ∷ [] ≡ named whose (xs ++ x ∷ [])
  push_named [] x = refl
  push_named (y ∷ xs) x = grind (arith, common_steps, push_named xs x)

  -- the list with a waker
  pub list_named : (k : Option ℕ) (w : W) (xs : List (Listing W)) → list_with (ticket_for k (named whose xs)) (whose w) (named whose xs) ≡ named whose (list_with (ticket_for k xs) w xs)
  list_named k w xs =
      let n : ℕ = ticket_for k xs in
      ap (λ m. list_with m (whose w) (named whose xs)) (ticket_named k xs)
      ∙ ap (λ zs. zs ++ record { ticket = n; waker = Some (whose w) } ∷ []) (take_named n xs)
      ∙ push_named (take_out n xs) (record { ticket = n; waker = Some w })

  -- the waker of the first listing that has one
  pub first_named : (xs : List (Listing W)) → first_waker (named whose xs) ≡ option_map whose (first_waker xs)
  first_named [] = refl
  first_named (x ∷ xs) = grind (arith, common_steps, first_named xs)

  -- the list once that waker was handed out
  pub call_named : (xs : List (Listing W)) → call_first (named whose xs) ≡ named whose (call_first xs)
  call_named [] = refl
  call_named (x ∷ xs) = grind (arith, common_steps, call_named xs)

  -- the list that is left when a task leaves
  pub left_named : (passes : Bool) (n : ℕ) (xs : List (Listing W)) → left_list passes n (named whose xs) ≡ named whose (left_list passes n xs)
  left_named passes n xs = grind (arith, common_steps, take_named, call_named)

  -- and the waker that then gets the turn
  pub next_named : (passes : Bool) (n : ℕ) (xs : List (Listing W)) → next_waker passes n (named whose xs) ≡ option_map whose (next_waker passes n xs)
  next_named passes n xs = grind (arith, common_steps, take_named, first_named)

  -- all wakers, in the order of their listings
  pub wakers_named : (xs : List (Listing W)) → wakers_of (named whose xs) ≡ map whose (wakers_of xs)
  wakers_named [] = refl
  wakers_named (x ∷ xs) = grind (arith, common_steps, wakers_named xs)
