-- Which numbers are marked after a change, and which is the first that is not.
use Rattle.std.proofs.Common.{◌≡◌, ◌<◌, ◌≤◌, ℕ, zero, suc, Bool, true, false, cond, ◌==◌, List, [], ◌∷◌, ◌++◌, length, get_or, set, refl, sym, ◌∙◌, arith, ⊎_elim}
use Rattle.std.proofs.lemmas.Bool.{false≢true, ne_eqb, cases_eq, cases_lt}
use Rattle.std.proofs.lemmas.Bool.Decides.{nat_tests}
use Rattle.once_machine.specs.Marks.{is_marked}

-- a mark that is changed
pub marked_set : (n m : ℕ) (b : Bool) (bs : List Bool) → m < length bs → is_marked n (set bs m b) ≡ cond (m == n) b (is_marked n bs)
marked_set n m b [] l = absurd (omega arith)
marked_set zero zero b (x ∷ bs) l = refl
marked_set zero (suc m) b (x ∷ bs) l = grind (arith, nat_tests)
marked_set (suc n) zero b (x ∷ bs) l = grind (arith, nat_tests)
marked_set (suc n) (suc m) b (x ∷ bs) l = let ih = marked_set n m b bs (omega arith) in grind (arith, nat_tests)

pub marked_past : (n : ℕ) (bs : List Bool) → length bs ≤ n → is_marked n bs ≡ false
marked_past n [] l = refl
marked_past zero (b ∷ bs) l = absurd (omega arith)
marked_past (suc n) (b ∷ bs) l = marked_past n bs (omega arith)

pub marked_within : (n : ℕ) (bs : List Bool) → is_marked n bs ≡ true → n < length bs
marked_within n bs m = ⊎_elim (λ l. l) (λ l. absurd (false≢true (sym (marked_past n bs l) ∙ m))) (cases_lt n (length bs))

pub marked_push : (n : ℕ) (b : Bool) (bs : List Bool) → is_marked n (bs ++ b ∷ []) ≡ cond (length bs == n) b (is_marked n bs)
marked_push zero b [] = refl
marked_push (suc n) b [] = grind (arith, nat_tests)
marked_push zero b (x ∷ bs) = grind (arith, nat_tests)
marked_push (suc n) b (x ∷ bs) = let ih = marked_push n b bs in grind (arith, nat_tests)

-- no mark is taken away past the end
pub unmarked : (n m : ℕ) (bs : List Bool) → length bs ≤ m → is_marked n bs ≡ cond (m == n) false (is_marked n bs)
unmarked n m bs l = ⊎_elim
    (λ e. let z : is_marked n bs ≡ false = marked_past n bs (omega arith) in grind arith)
    (λ d. rw (ne_eqb m n d) refl)
    (cases_eq m n)

pub marked_at : (i : ℕ) (bs : List Bool) (d : Bool) → i < length bs → is_marked i bs ≡ get_or bs i d
marked_at i [] d l = absurd (omega arith)
marked_at zero (b ∷ bs) d l = refl
marked_at (suc i) (b ∷ bs) d l = marked_at i bs d (omega arith)

-- numbers that are all marked are within the marks
pub marked_below : (n : ℕ) (bs : List Bool) → ((m : ℕ) → m < n → is_marked m bs ≡ true) → n ≤ length bs
marked_below n bs before = ⊎_elim (λ l. absurd (false≢true (sym (marked_past (length bs) bs (omega arith)) ∙ before (length bs) l))) (λ l. l) (cases_lt (length bs) n)
