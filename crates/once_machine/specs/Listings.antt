-- The list under the cell's lock: the listings of the waiters, the oldest first. A listing without a waker is one that
-- was woken.
use Rattle.std.specs.Prelude.{ℕ, zero, suc, ◌+◌, ◌==◌, Bool, true, false, if◌then◌else◌}
use Rattle.std.specs.Prelude.{List, [], ◌∷◌, ◌++◌, Option, Some, None, map}
use Rattle.std.specs.List.{cons_option}
use Rattle.std.specs.Option.{option_or, unwrap_or}
use Rattle.std.specs.Borrow.{Bor}
pub use Rattle.once_machine.specs.declared.waiters.Listing.{Listing}
use Rattle.once_machine.specs.Numbers.{member}

module _ {W : Type 0} where
  -- the tickets of the listings, in their order
  abbrev pub tickets : List (Listing W) → List ℕ
  tickets [] = []
  tickets (x ∷ xs) = x.ticket ∷ tickets xs

  -- the listings that these borrows show
  abbrev pub lent_listings : List (Bor (Listing W)) → List (Listing W)
  lent_listings all = map (λ x. x.now) all

  -- the waker of the listing with the ticket
  abbrev pub find_listing : ℕ → List (Listing W) → Option (Option W)
  find_listing n [] = None
  find_listing n (x ∷ xs) = if x.ticket == n then Some x.waker else find_listing n xs

  -- the same, or None if there is no ticket
  abbrev pub own_listing : Option ℕ → List (Listing W) → Option (Option W)
  own_listing None xs = None
  own_listing (Some n) xs = find_listing n xs

  -- the list without the listing of the ticket
  abbrev pub take_out : ℕ → List (Listing W) → List (Listing W)
  take_out n [] = []
  take_out n (x ∷ xs) = if x.ticket == n then take_out n xs else x ∷ take_out n xs

  -- the same, or the whole list if there is no ticket
  abbrev pub list_without : Option ℕ → List (Listing W) → List (Listing W)
  list_without None xs = xs
  list_without (Some n) xs = take_out n xs

  -- the waker of the first listing that has one
  abbrev pub first_waker : List (Listing W) → Option W
  first_waker [] = None
  first_waker (x ∷ xs) = option_or x.waker (first_waker xs)

  -- the listing x is woken if it has a waker, which it loses, and xs follows it; else rest does
  abbrev pub call_by : Listing W → Option W → List (Listing W) → List (Listing W) → List (Listing W)
  call_by x (Some w) xs rest = record { ticket = x.ticket; waker = None } ∷ xs
  call_by x None xs rest = x ∷ rest

  -- the list once the first listing that has a waker was woken
  abbrev pub call_first : List (Listing W) → List (Listing W)
  call_first [] = []
  call_first (x ∷ xs) = call_by x x.waker xs (call_first xs)

  -- the list with another waker in the listing of the ticket
  abbrev pub with_waker : ℕ → W → List (Listing W) → List (Listing W)
  with_waker n w [] = []
  with_waker n w (x ∷ xs) =
      if x.ticket == n then record { ticket = x.ticket; waker = Some w } ∷ xs else x ∷ with_waker n w xs

  -- the wakers, in the order of their listings
  abbrev pub wakers_of : List (Listing W) → List W
  wakers_of [] = []
  wakers_of (x ∷ xs) = cons_option x.waker (wakers_of xs)

-- the least number from n on that is not in the list; n + f if the f numbers from n on are all in it
abbrev pub least_from : ℕ → ℕ → List ℕ → ℕ
least_from zero n ns = n
least_from (suc f) n ns = if member n ns then least_from f (suc n) ns else n

-- a number above each of the list
abbrev pub above_each : List ℕ → ℕ
above_each [] = 0
above_each (x ∷ xs) = suc x + above_each xs

module _ {W : Type 0} where
  -- the least number that no listing has
  abbrev pub new_ticket : List (Listing W) → ℕ
  new_ticket xs = least_from (above_each (tickets xs)) 0 (tickets xs)

  -- the own ticket counts while its listing is there
  abbrev pub kept_ticket : Option ℕ → List (Listing W) → Option ℕ
  kept_ticket None xs = None
  kept_ticket (Some n) xs = if member n (tickets xs) then Some n else None

  -- the ticket by which a waker is listed: the own one, or a new one
  abbrev pub ticket_for : Option ℕ → List (Listing W) → ℕ
  ticket_for k xs = unwrap_or (kept_ticket k xs) (new_ticket xs)

  -- the own listing is taken out, and one with the ticket and the waker goes to the end
  abbrev pub list_with : ℕ → W → List (Listing W) → List (Listing W)
  list_with n w xs = take_out n xs ++ record { ticket = n; waker = Some w } ∷ []

  -- the listing was woken
  abbrev pub was_called : Option (Option W) → Bool
  was_called (Some None) = true
  was_called _ = false

  -- a task that leaves passes its turn on if its listing was woken, nobody holds and the value is not set
  abbrev pub passes_turn : Bool → ℕ → List (Listing W) → Bool
  passes_turn free n xs = if free then was_called (find_listing n xs) else false

  -- the waker that then gets the turn, if there is one
  abbrev pub next_waker : Bool → ℕ → List (Listing W) → Option W
  next_waker passes n xs = if passes then first_waker (take_out n xs) else None

  -- the list that is left when the listing of a task that leaves is taken out
  abbrev pub left_list : Bool → ℕ → List (Listing W) → List (Listing W)
  left_list passes n xs = if passes then call_first (take_out n xs) else take_out n xs

-- all wakers in the order of their listings, each once: what comes after those that were seen
abbrev pub out_by : Option ℕ → (List ℕ → List ℕ) → List ℕ → List ℕ
out_by None rest seen = rest seen
out_by (Some w) rest seen = if member w seen then rest seen else w ∷ rest (w ∷ seen)

-- the wakers of the list in order, each once, but for those that were seen
abbrev pub all_out : List (Listing ℕ) → List ℕ → List ℕ
all_out [] seen = []
all_out (x ∷ xs) seen = out_by x.waker (all_out xs) seen

-- the own listing has the waker
abbrev pub is_waker : ℕ → Option (Option ℕ) → Bool
is_waker w (Some (Some k)) = k == w
is_waker w _ = false
