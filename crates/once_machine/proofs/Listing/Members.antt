-- Whether a number stands in a list, and whether one stands there twice.
use Rattle.std.proofs.Common.{◌≡◌, ℕ, true, false, cond, ◌==◌, List, [], ◌∷◌, ◌++◌, refl, arith}
use Rattle.std.proofs.lemmas.Bool.{eq-eqb}
use Rattle.std.proofs.lemmas.Bool.Decides.{nat_tests}
use Rattle.once_machine.specs.Numbers.{is_distinct, member}

-- a number equals itself
pub eqb_self : (n : ℕ) → (n == n) ≡ true
eqb_self n = eq-eqb n n refl

-- membership in two lists
pub member-append : (n : ℕ) (xs ys : List ℕ) → member n (xs ++ ys) ≡ cond (member n xs) true (member n ys)
member-append n [] ys = refl
member-append n (x ∷ xs) ys = let ih = member-append n xs ys in grind arith

-- membership with one more number
pub member-push : (n k : ℕ) (xs : List ℕ) → member n (xs ++ k ∷ []) ≡ cond (member n xs) true (k == n)
member-push n k xs = grind (arith, nat_tests, member-append)

-- a new number keeps the list distinct
pub is_distinct-push : (n : ℕ) (xs : List ℕ) → member n xs ≡ false → is_distinct xs ≡ true → is_distinct (xs ++ n ∷ []) ≡ true
is_distinct-push n [] m d = refl
is_distinct-push n (x ∷ xs) m d = grind (arith, nat_tests, member-push, is_distinct-push n xs)
