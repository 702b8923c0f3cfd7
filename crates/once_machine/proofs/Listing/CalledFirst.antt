-- What waking the first listing leaves.
use Rattle.std.proofs.Common.{◌≡◌, ℕ, Bool, true, false, ◌==◌, ◌⊎◌, inl, inr, List, [], ◌∷◌, Option, Some, None, refl, ap, arith}
use Rattle.std.specs.Option.{option_or}
use Rattle.once_machine.specs.declared.waiters.Listing.{Listing}
use Rattle.once_machine.specs.Listings.{call_by, call_first, find_listing, first_waker}
use Rattle.once_machine.proofs.Listing.Members.{eqb_self}

-- what it leaves of the listing n that had the waker o, if any: the same, or none if it was woken
abbrev pub Called : ℕ → Option ℕ → List (Listing ℕ) → Type 0
Called n o xs = (find_listing n (call_first xs) ≡ Some o) ⊎ ((w : ℕ) × (o ≡ Some w) × (find_listing n (call_first xs) ≡ Some None) × (first_waker xs ≡ Some w))

call_find_by : (n : ℕ) (o : Option ℕ) (x : Listing ℕ) (xs : List (Listing ℕ)) (k : Option ℕ) (b : Bool) → x.waker ≡ k
    → (x.ticket == n) ≡ b → find_listing n (x ∷ xs) ≡ Some o → (find_listing n xs ≡ Some o → Called n o xs)
    → (find_listing n (call_by x k xs (call_first xs)) ≡ Some o) ⊎ ((w : ℕ) × (o ≡ Some w) × (find_listing n (call_by x k xs (call_first xs)) ≡ Some None) × (option_or k (first_waker xs) ≡ Some w))
call_find_by n o x xs (Some w) true is b f ih = inr (w, grind arith, grind arith, refl)
call_find_by n o x xs (Some w) false is b f ih = inl (grind arith)
call_find_by n o x xs None true is b f ih = inl (grind arith)
call_find_by n o x xs None false is b f ih = let k : find_listing n xs ≡ Some o = grind arith in rw b (ih k)

pub call_find : (n : ℕ) (o : Option ℕ) (xs : List (Listing ℕ)) → find_listing n xs ≡ Some o → Called n o xs
call_find n o [] f = grind arith
call_find n o (x ∷ xs) f = call_find_by n o x xs x.waker (x.ticket == n) refl refl f (call_find n o xs)

call_back_by : (n : ℕ) (o : Option ℕ) (x : Listing ℕ) (xs : List (Listing ℕ)) (k : Option ℕ) (b : Bool)
    → (x.ticket == n) ≡ b → find_listing n (call_by x k xs (call_first xs)) ≡ Some o
    → (find_listing n (call_first xs) ≡ Some o → (j : Option ℕ) × (find_listing n xs ≡ Some j))
    → (j : Option ℕ) × (find_listing n (x ∷ xs) ≡ Some j)
call_back_by n o x xs k true b f ih = (x.waker, rw b refl)
call_back_by n o x xs (Some w) false b f ih = (o, grind arith)
call_back_by n o x xs None false b f ih = let s : find_listing n (call_first xs) ≡ Some o = grind arith in let j = ih s in (j.0, rw b j.1)

-- it leaves nothing that was not there
pub call_back : (n : ℕ) (o : Option ℕ) (xs : List (Listing ℕ)) → find_listing n (call_first xs) ≡ Some o → (k : Option ℕ) × (find_listing n xs ≡ Some k)
call_back n o [] f = grind arith
call_back n o (x ∷ xs) f = call_back_by n o x xs x.waker (x.ticket == n) refl f (call_back n o xs)

called_by : (x : Listing ℕ) (xs : List (Listing ℕ)) (k : Option ℕ) → x.waker ≡ k → (n : ℕ) × (find_listing n (call_by x k xs (call_first xs)) ≡ Some None)
called_by x xs (Some w) is = (x.ticket, rw (eqb_self x.ticket) refl)
called_by x xs None is = (x.ticket, rw (eqb_self x.ticket) (ap (λ (o : Option ℕ). Some o) is))

-- after it some listing was woken, if one had a waker
pub call_called : (w : ℕ) (xs : List (Listing ℕ)) → first_waker xs ≡ Some w → (n : ℕ) × (find_listing n (call_first xs) ≡ Some None)
call_called w [] e = grind arith
call_called w (x ∷ xs) e = called_by x xs x.waker refl

call_none_by : (x : Listing ℕ) (xs : List (Listing ℕ)) (k : Option ℕ) → option_or k (first_waker xs) ≡ None
    → (first_waker xs ≡ None → call_first xs ≡ xs) → call_by x k xs (call_first xs) ≡ x ∷ xs
call_none_by x xs (Some w) e ih = grind arith
call_none_by x xs None e ih = ap (λ (ys : List (Listing ℕ)). x ∷ ys) (ih e)

-- if no listing has a waker, the list stays
pub call_none : (xs : List (Listing ℕ)) → first_waker xs ≡ None → call_first xs ≡ xs
call_none [] e = refl
call_none (x ∷ xs) e = call_none_by x xs x.waker e (call_none xs)
