-- Listings among holes: what taking one out, adding one and waking the first leave of those that are kept.
use Rattle.std.proofs.Common.{◌≡◌, ◌<◌, ◌≤◌, ◌⊎◌, ℕ, zero, suc, Bool, true, false, cond, not, ◌==◌, List, [], ◌∷◌, ◌++◌}
use Rattle.std.proofs.Common.{filter, Option, Some, None, length, get_or, set, refl, inl, inr, sym, ap, ◌∙◌, arith}
use Rattle.std.specs.List.{HoldsAt}
use Rattle.std.specs.Option.{is_some, option_or}
use Rattle.std.proofs.lemmas.Bool.{false≢true, cases_eq}
use Rattle.std.proofs.lemmas.Bool.Decides.{nat_tests}
use Rattle.std.proofs.lemmas.List.{get_or-set_other, get_or-set_same, get_or_append_left}
use Rattle.std.proofs.lemmas.List.Elements.{filter-append}
use Rattle.once_machine.proofs.Listing.Tickets.{take_none}
use Rattle.once_machine.specs.Numbers.{is_distinct, member}
use Rattle.once_machine.specs.Listings.{Listing, call_by, call_first, find_listing, first_waker, take_out, tickets, with_waker}

module _ {W : Type 0} where
  member_by : (b : Bool) (n : ℕ) (x : Listing W) (ys : List (Listing W)) → member n (tickets ys) ≡ true → member n (tickets (cond b (x ∷ ys) ys)) ≡ true
  member_by true n x ys m = grind arith
  member_by false n x ys m = m

  none_by : (b : Bool) (n : ℕ) (x : Listing W) (ys : List (Listing W)) → (b ≡ true → (x.ticket == n) ≡ false)
      → member n (tickets ys) ≡ false → member n (tickets (cond b (x ∷ ys) ys)) ≡ false
  none_by true n x ys d m = rw (d refl) m
  none_by false n x ys d m = m

  taken_by : (b : Bool) (n : ℕ) (x : Listing W) (ys zs : List (Listing W)) → member n (tickets ys) ≡ true
      → is_distinct (tickets (cond b (x ∷ ys) ys)) ≡ true → (is_distinct (tickets ys) ≡ true → zs ≡ take_out n ys)
      → cond b (x ∷ zs) zs ≡ take_out n (cond b (x ∷ ys) ys)
  taken_by true n x ys zs m once rest =
      let other : (x.ticket == n) ≡ false = grind (arith, nat_tests) in
      let distinct : is_distinct (tickets ys) ≡ true = grind arith in
      rw other (ap (λ (vs : List (Listing W)). x ∷ vs) (rest distinct))
  taken_by false n x ys zs m once rest = rest once

  found_by : (b : Bool) (n : ℕ) (x : Listing W) (ys : List (Listing W)) (w : Option W) → member n (tickets ys) ≡ true
      → is_distinct (tickets (cond b (x ∷ ys) ys)) ≡ true
      → (is_distinct (tickets ys) ≡ true → find_listing n ys ≡ Some w)
      → find_listing n (cond b (x ∷ ys) ys) ≡ Some w
  found_by true n x ys w m once rest =
      let other : (x.ticket == n) ≡ false = grind (arith, nat_tests) in
      let distinct : is_distinct (tickets ys) ≡ true = grind arith in
      rw other (rest distinct)
  found_by false n x ys w m once rest = rest once

  renewed_by : (b : Bool) (n : ℕ) (w : W) (x : Listing W) (ys zs : List (Listing W)) → member n (tickets ys) ≡ true
      → is_distinct (tickets (cond b (x ∷ ys) ys)) ≡ true → (is_distinct (tickets ys) ≡ true → zs ≡ with_waker n w ys)
      → cond b (x ∷ zs) zs ≡ with_waker n w (cond b (x ∷ ys) ys)
  renewed_by true n w x ys zs m once rest =
      let other : (x.ticket == n) ≡ false = grind (arith, nat_tests) in
      let distinct : is_distinct (tickets ys) ≡ true = grind arith in
      rw other (ap (λ (vs : List (Listing W)). x ∷ vs) (rest distinct))
  renewed_by false n w x ys zs m once rest = rest once

  -- the first listing with a waker
  calls_by : (x : Listing W) (o : Option W) (ys : List (Listing W)) → is_some o ≡ true
      → (o ≡ option_or o (first_waker ys)) × (record { ticket = x.ticket; waker = None } ∷ ys ≡ call_by x o ys (call_first ys))
  calls_by x (Some w) ys s = (refl, refl)
  calls_by x None ys s = absurd (false≢true s)

  passes_by : (b : Bool) (x : Listing W) {o v : Option W} (ys : List (Listing W)) {zs : List (Listing W)} → x.waker ≡ o
      → cond b (is_some o) false ≡ false → v ≡ first_waker ys → zs ≡ call_first ys
      → (v ≡ first_waker (cond b (x ∷ ys) ys)) × (cond b (x ∷ zs) zs ≡ call_first (cond b (x ∷ ys) ys))
  passes_by true x {o = Some w} ys is s f c = absurd (false≢true (sym s))
  passes_by true x {o = None} ys is s f c = (rw is f, rw (is, c) refl)
  passes_by false x ys is s f c = (f, c)

  length_by : (b : Bool) (x : Listing W) (ys : List (Listing W)) (n : ℕ) → length ys ≤ n → length (cond b (x ∷ ys) ys) ≤ suc n
  length_by true x ys n l = omega arith
  length_by false x ys n l = omega arith

  less_by : (b : Bool) (x : Listing W) (ys zs : List (Listing W)) → suc (length ys) ≡ length zs
      → suc (length (cond b (x ∷ ys) ys)) ≡ length (cond b (x ∷ zs) zs)
  less_by true x ys zs e = ap suc e
  less_by false x ys zs e = e

module _ {W : Type 0} (p : Listing W → Bool) where
  -- one that is kept has its ticket there
  pub kept_member : {n : ℕ} (i : ℕ) (xs : List (Listing W)) (d : Listing W) → i < length xs → (get_or xs i d).ticket ≡ n
      → p (get_or xs i d) ≡ true → member n (tickets (filter p xs)) ≡ true
  kept_member i [] d l e k = absurd (omega arith)
  kept_member zero (x ∷ xs) d l e k = rw k (grind (arith, nat_tests))
  kept_member {n} (suc i) (x ∷ xs) d l e k = member_by (p x) n x (filter p xs) (kept_member i xs d (omega arith) e k)

  -- and a ticket that is in no slot is not there
  pub kept_none : (n : ℕ) (xs : List (Listing W)) → member n (tickets xs) ≡ false → member n (tickets (filter p xs)) ≡ false
  kept_none n [] m = refl
  kept_none n (x ∷ xs) m = none_by (p x) n x (filter p xs) (λ k. grind (arith, nat_tests)) (kept_none n xs (grind (arith, nat_tests)))

  pub holes_none : (h : ℕ) (xs : List (Listing W)) → ((x : Listing W) → p x ≡ true → (x.ticket == h) ≡ false) → member h (tickets (filter p xs)) ≡ false
  holes_none h [] apart = refl
  holes_none h (x ∷ xs) apart = none_by (p x) h x (filter p xs) (apart x) (holes_none h xs apart)

  -- a listing is taken out if a hole is put in its place
  pub kept_taken : (n i : ℕ) (xs : List (Listing W)) (z d : Listing W) → i < length xs → (get_or xs i d).ticket ≡ n
      → p (get_or xs i d) ≡ true → p z ≡ false → is_distinct (tickets (filter p xs)) ≡ true
      → filter p (set xs i z) ≡ take_out n (filter p xs)
  kept_taken n i [] z d l e k h once = absurd (omega arith)
  kept_taken n zero (x ∷ xs) z d l e k h once =
      let distinct : is_distinct (x.ticket ∷ tickets (filter p xs)) ≡ true = rw k at once in
      let none = take_none n (filter p xs) in
      rw (h, k) (grind (arith, nat_tests))
  kept_taken n (suc i) (x ∷ xs) z d l e k h once =
      taken_by (p x) n x (filter p xs) (filter p (set xs i z)) (kept_member i xs d (omega arith) e k) once (kept_taken n i xs z d (omega arith) e k h)

  pub kept_found : {n : ℕ} (i : ℕ) (xs : List (Listing W)) (d : Listing W) → i < length xs → (get_or xs i d).ticket ≡ n
      → p (get_or xs i d) ≡ true → is_distinct (tickets (filter p xs)) ≡ true
      → find_listing n (filter p xs) ≡ Some (get_or xs i d).waker
  kept_found i [] d l e k once = absurd (omega arith)
  kept_found zero (x ∷ xs) d l e k once = rw k (grind (arith, nat_tests))
  kept_found {n} (suc i) (x ∷ xs) d l e k once =
      found_by (p x) n x (filter p xs) (get_or xs i d).waker (kept_member i xs d (omega arith) e k) once (kept_found i xs d (omega arith) e k)

  -- a listing has another waker
  pub kept_renewed : (n i : ℕ) (w : W) (xs : List (Listing W)) (z d : Listing W) → i < length xs → (get_or xs i d).ticket ≡ n
      → p (get_or xs i d) ≡ true → p z ≡ true → z ≡ record { ticket = (get_or xs i d).ticket; waker = Some w }
      → is_distinct (tickets (filter p xs)) ≡ true
      → filter p (set xs i z) ≡ with_waker n w (filter p xs)
  kept_renewed n i w [] z d l e k h is once = absurd (omega arith)
  kept_renewed n zero w (x ∷ xs) z d l e k h is once =
      let same : (x.ticket == n) ≡ true = grind (arith, nat_tests) in
      rw (h, k, same) (ap (λ (y : Listing W). y ∷ filter p xs) is)
  kept_renewed n (suc i) w (x ∷ xs) z d l e k h is once =
      renewed_by (p x) n w x (filter p xs) (filter p (set xs i z)) (kept_member i xs d (omega arith) e k) once (kept_renewed n i w xs z d (omega arith) e k h is)

  pub kept_pushed : (x : Listing W) (xs : List (Listing W)) → p x ≡ true → filter p (xs ++ x ∷ []) ≡ filter p xs ++ x ∷ []
  kept_pushed x xs k = filter-append p xs (x ∷ []) ∙ rw k refl

  -- the first listing that is kept and has a waker is woken
  abbrev opens : Listing W → Bool
  opens x = cond (p x) (is_some x.waker) false

  pub nobody_called : (xs : List (Listing W))
      → ((k : ℕ) (d : Listing W) → k < length xs → opens (get_or xs k d) ≡ false)
      → (None ≡ first_waker (filter p xs)) × (filter p xs ≡ call_first (filter p xs))
  nobody_called [] none = (refl, refl)
  nobody_called (x ∷ xs) none =
      let rest = nobody_called xs (λ k d l. none (suc k) d (omega arith)) in
      passes_by (p x) x (filter p xs) refl (none 0 x (omega arith)) rest.0 rest.1

  one_left : (i : ℕ) (xs : List (Listing W)) {z : Listing W} (d : Listing W) → i < length xs → opens (get_or xs i d) ≡ true
      → ((k : ℕ) → k < i → opens (get_or xs k d) ≡ false) → p z ≡ true
      → z ≡ record { ticket = (get_or xs i d).ticket; waker = None }
      → ((get_or xs i d).waker ≡ first_waker (filter p xs)) × (filter p (set xs i z) ≡ call_first (filter p xs))
  one_left i [] d l o before k is = absurd (omega arith)
  one_left zero (x ∷ xs) d l o before k is =
      let kept : p x ≡ true = grind arith in
      let some : is_some x.waker ≡ true = rw kept at o in
      let call = calls_by x x.waker (filter p xs) some in
      (rw kept call.0, rw (k, kept, is) call.1)
  one_left (suc i) (x ∷ xs) {z} d l o before k is =
      let rest = one_left i xs d (omega arith) o (λ j m. before (suc j) (omega arith)) k is in
      passes_by (p x) x (filter p xs) refl (before 0 (omega arith)) rest.0 rest.1

  pub one_called : (i : ℕ) (xs : List (Listing W)) (x : Listing W) (o : Option W) → i < length xs → x ≡ get_or xs i x
      → opens x ≡ true → ((k : ℕ) → k < i → opens (get_or xs k x) ≡ false) → o ≡ None
      → p (record { ticket = x.ticket; waker = o }) ≡ true
      → (x.waker ≡ first_waker (filter p xs)) × (filter p (set xs i (record { ticket = x.ticket; waker = o })) ≡ call_first (filter p xs))
  one_called i xs x o l is waits before none kept =
      let z : Listing W = record { ticket = x.ticket; waker = o } in
      let left = one_left i xs x l (rw (sym is) waits) before kept (rw none (ap (λ (y : Listing W). record { ticket = y.ticket; waker = None }) is)) in
      (ap (λ (y : Listing W). y.waker) is ∙ left.0, left.1)

  -- if there is a hole, fewer are kept than there are slots
  pub kept_length : (xs : List (Listing W)) → length (filter p xs) ≤ length xs
  kept_length [] = omega arith
  kept_length (x ∷ xs) = length_by (p x) x (filter p xs) (length xs) (kept_length xs)

  pub hole_length : (i : ℕ) (xs : List (Listing W)) (z : Listing W) → i < length xs → p z ≡ false → length (filter p (set xs i z)) < length xs
  hole_length i [] z l h = absurd (omega arith)
  hole_length zero (x ∷ xs) z l h = let most = kept_length xs in rw h (omega arith)
  hole_length (suc i) (x ∷ xs) z l h = let less = hole_length i xs z (omega arith) h in let most = length_by (p x) x
      (filter p (set xs i z)) (length (filter p (set xs i z))) (omega arith) in omega arith

  -- a hole in the place of one that is kept leaves one less
  pub hole_less : (i : ℕ) (xs : List (Listing W)) (z d : Listing W) → i < length xs → p (get_or xs i d) ≡ true → p z ≡ false
      → suc (length (filter p (set xs i z))) ≡ length (filter p xs)
  hole_less i [] z d l k h = absurd (omega arith)
  hole_less zero (x ∷ xs) z d l k h = rw (h, k) refl
  hole_less (suc i) (x ∷ xs) z d l k h = less_by (p x) x (filter p (set xs i z)) (filter p xs) (hole_less i xs z d (omega arith) k h)

  -- what is kept is kept again
  again_by : (b : Bool) (x : Listing W) (ys : List (Listing W)) → p x ≡ b → filter p ys ≡ ys → filter p (cond b (x ∷ ys) ys) ≡ cond b (x ∷ ys) ys
  again_by true x ys k same = rw (k, same) refl
  again_by false x ys k same = same

  pub kept_again : (xs : List (Listing W)) → filter p (filter p xs) ≡ filter p xs
  kept_again [] = refl
  kept_again (x ∷ xs) = again_by (p x) x (filter p xs) refl (kept_again xs)

  -- what fails a test before a place fails it still when one that fails is put in a slot, or at the end
  fails_at : (i n : ℕ) (xs : List (Listing W)) (z d : Listing W) → p z ≡ false → i < length xs
      → (n ≡ i) ⊎ (n ≡ i → ⊥) → p (get_or xs n d) ≡ false → p (get_or (set xs i z) n d) ≡ false
  fails_at i n xs z d f l (inl e) b = rw (e, get_or-set_same xs i z d l) f
  fails_at i n xs z d f l (inr e) b = rw (get_or-set_other xs i n z d e) b

  pub fails_set : (u i : ℕ) (xs : List (Listing W)) (z : Listing W) → p z ≡ false → i < length xs
      → ((n : ℕ) → n < u → HoldsAt (λ x. p x ≡ false) xs n) → (n : ℕ) → n < u
      → HoldsAt (λ x. p x ≡ false) (set xs i z) n
  fails_set u i xs z f l before n m d = fails_at i n xs z d f l (cases_eq n i) (before n m d)

  pub fails_push : (u : ℕ) (xs : List (Listing W)) (z : Listing W) → u ≤ length xs
      → ((n : ℕ) → n < u → HoldsAt (λ x. p x ≡ false) xs n) → (n : ℕ) → n < u
      → HoldsAt (λ x. p x ≡ false) (xs ++ z ∷ []) n
  fails_push u xs z l before n m d = rw (get_or_append_left xs (z ∷ []) d n (omega arith)) (before n m d)

-- a slot that has a ticket of a listing
pub not_false : (b : Bool) → b ≡ false → not b ≡ true
not_false b e = rw e refl

pub not_true : (b : Bool) → not b ≡ true → b ≡ false
not_true true e = absurd (false≢true e)
not_true false e = refl

pub either_true : (b : Bool) → cond b true true ≡ true
either_true true = refl
either_true false = refl

pub kept_open : (b c : Bool) → cond b c false ≡ true → b ≡ true
kept_open true c e = refl
kept_open false c e = e
