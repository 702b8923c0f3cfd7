-- Lists of listings: what is found by a ticket, and how many have a waker.
use Rattle.std.proofs.Common.{◌≡◌, ◌≢◌, ◌≤◌, ◌<◌, ◌+◌, ℕ, Bool, true, false, ◌==◌, List, [], ◌∷◌, ◌++◌, Option, Some, None, refl, arith}
use Rattle.std.specs.Option.{option_or, option_to_list}
use Rattle.std.proofs.lemmas.Bool.Decides.{nat_tests}
use Rattle.once_machine.specs.Numbers.{bit, member, times_in}
use Rattle.once_machine.specs.declared.waiters.Listing.{Listing}
use Rattle.once_machine.specs.Listings.{call_by, call_first, find_listing, first_waker, new_ticket, take_out, tickets}
use Rattle.once_machine.proofs.Listing.Least.{least_new}

abbrev pub is_for : ℕ → Option ℕ → Bool
is_for w None = false
is_for w (Some k) = k == w

-- how many listings have the waker
abbrev pub asks : ℕ → List (Listing ℕ) → ℕ
asks w [] = 0
asks w (x ∷ xs) = bit (is_for w x.waker) + asks w xs

-- what is found after a listing was taken out
pub find_take_other : (n m : ℕ) (xs : List (Listing ℕ)) → m ≢ n → find_listing n (take_out m xs) ≡ find_listing n xs
find_take_other n m [] d = refl
find_take_other n m (x ∷ xs) d = grind (arith, nat_tests, find_take_other n m xs)

pub find_take_same : (n : ℕ) (xs : List (Listing ℕ)) → find_listing n (take_out n xs) ≡ None
find_take_same n [] = refl
find_take_same n (x ∷ xs) = grind (arith, nat_tests, find_take_same n xs)

-- what is found after one was put to the end
pub find_push_other : (n m : ℕ) (k : Option ℕ) (xs : List (Listing ℕ)) → m ≢ n
    → find_listing n (xs ++ record { ticket = m; waker = k } ∷ []) ≡ find_listing n xs
find_push_other n m k [] d = grind (arith, nat_tests)
find_push_other n m k (x ∷ xs) d = grind (arith, nat_tests, find_push_other n m k xs d)

pub find_push_same : (n : ℕ) (k : Option ℕ) (xs : List (Listing ℕ)) → find_listing n xs ≡ None
    → find_listing n (xs ++ record { ticket = n; waker = k } ∷ []) ≡ Some k
find_push_same n k [] e = grind (arith, nat_tests)
find_push_same n k (x ∷ xs) e = grind (arith, nat_tests, find_push_same n k xs)

-- how many have the waker after the same
pub asks_take : (w n : ℕ) (xs : List (Listing ℕ)) → asks w (take_out n xs) ≤ asks w xs
asks_take w n [] = omega arith
asks_take w n (x ∷ xs) = let ih = asks_take w n xs in grind arith

pub asks_push : (w : ℕ) (x : Listing ℕ) (xs : List (Listing ℕ)) → asks w (xs ++ x ∷ []) ≡ asks w xs + bit (is_for w x.waker)
asks_push w x [] = omega arith
asks_push w x (y ∷ xs) = let ih = asks_push w x xs in omega arith

for_self : (w : ℕ) (o : Option ℕ) → o ≡ Some w → bit (is_for w o) ≡ 1
for_self w (Some k) e = grind (arith, nat_tests)
for_self w None e = grind arith

found_by : (n w : ℕ) (x : Listing ℕ) (xs : List (Listing ℕ)) (b : Bool) → (x.ticket == n) ≡ b
    → find_listing n (x ∷ xs) ≡ Some (Some w) → (find_listing n xs ≡ Some (Some w) → 0 < asks w xs)
    → 0 < asks w (x ∷ xs)
found_by n w x xs true is e ih = let k : x.waker ≡ Some w = grind arith in let one = for_self w x.waker k in omega arith
found_by n w x xs false is e ih = let k : find_listing n xs ≡ Some (Some w) = grind arith in let l = ih k in omega arith

-- a listing that is found with a waker is one that has it
pub asks_found : (n w : ℕ) (xs : List (Listing ℕ)) → find_listing n xs ≡ Some (Some w) → 0 < asks w xs
asks_found n w [] e = grind arith
asks_found n w (x ∷ xs) e = found_by n w x xs (x.ticket == n) refl e (asks_found n w xs)

asks_call_by : (w : ℕ) (x : Listing ℕ) (xs : List (Listing ℕ)) (o : Option ℕ) → x.waker ≡ o
    → asks w (call_first xs) + times_in w (option_to_list (first_waker xs)) ≡ asks w xs
    → asks w (call_by x o xs (call_first xs)) + times_in w (option_to_list (option_or o (first_waker xs))) ≡ bit (is_for w o) + asks w xs
asks_call_by w x xs (Some k) is ih = omega arith
asks_call_by w x xs None is ih = let z : bit (is_for w x.waker) ≡ 0 = rw is refl in omega arith

-- waking the first hands out what it takes away
pub asks_call : (w : ℕ) (xs : List (Listing ℕ)) → asks w (call_first xs) + times_in w (option_to_list (first_waker xs)) ≡ asks w xs
asks_call w [] = refl
asks_call w (x ∷ xs) = asks_call_by w x xs x.waker refl (asks_call w xs)

first_asks_by : (w : ℕ) (o rest : Option ℕ) (m : ℕ) → option_or o rest ≡ None → (rest ≡ None → m ≡ 0) → bit (is_for w o) + m ≡ 0
first_asks_by w (Some k) rest m e ih = grind arith
first_asks_by w None rest m e ih = let z = ih e in omega arith

-- if no listing has a waker, none has this one
pub first_asks : (w : ℕ) (xs : List (Listing ℕ)) → first_waker xs ≡ None → asks w xs ≡ 0
first_asks w [] e = refl
first_asks w (x ∷ xs) e = first_asks_by w x.waker (first_waker xs) (asks w xs) e (first_asks w xs)

pub none_found : (n w : ℕ) (xs : List (Listing ℕ)) → first_waker xs ≡ None → find_listing n xs ≡ Some (Some w) → ⊥
none_found n w xs e f = let l = asks_found n w xs f in let z = first_asks w xs e in omega arith

-- a new ticket stands in no listing
pub new_fresh : (xs : List (Listing ℕ)) → member (new_ticket xs) (tickets xs) ≡ false
new_fresh xs = least_new (tickets xs)
