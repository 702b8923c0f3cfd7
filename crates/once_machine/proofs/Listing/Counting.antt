-- How many of a list pass a test, if each number stands there once.
use Rattle.std.proofs.Common.{◌≡◌, ◌≢◌, ◌≤◌, ◌<◌, ◌+◌, ℕ, Bool, true, false, ◌⊎◌, inl, inr, List, [], ◌∷◌, length, refl, sym, ap, subst, arith}
use Rattle.std.proofs.lemmas.Bool.{cases_eq}
use Rattle.std.proofs.lemmas.Bool.Decides.{nat_tests}
use Rattle.once_machine.specs.Numbers.{bit, how_many, is_distinct, member}

-- two tests that differ at t alone count the same in a list without t
pub count_same : (t : ℕ) (ns : List ℕ) (p q : ℕ → Bool) → member t ns ≡ false → ((u : ℕ) → t ≢ u → p u ≡ q u) → how_many q ns ≡ how_many p ns
count_same t [] p q m e = refl
count_same t (x ∷ xs) p q m e = grind (arith, nat_tests, count_same t xs p q)

-- the first number of the list is t or another
change_by : (t x : ℕ) (xs : List ℕ) (p q : ℕ → Bool) → (t ≡ x) ⊎ (t ≢ x) → is_distinct (x ∷ xs) ≡ true
    → member t (x ∷ xs) ≡ true → ((u : ℕ) → t ≢ u → p u ≡ q u)
    → (is_distinct xs ≡ true → member t xs ≡ true → ((u : ℕ) → t ≢ u → p u ≡ q u) → how_many q xs + bit (p t) ≡ how_many p xs + bit (q t))
    → how_many q (x ∷ xs) + bit (p t) ≡ how_many p (x ∷ xs) + bit (q t)
change_by t x xs p q (inl same) d m e ih =
    let out : member x xs ≡ false = grind arith in
    let rest = count_same t xs p q (subst (λ k. member k xs ≡ false) (sym same) out) e in
    rw (rest, same) (omega arith)
change_by t x xs p q (inr apart) d m e ih =
    let rest = ih (grind arith) (grind (arith, nat_tests)) e in
    let here = e x apart in
    rw here (omega (arith, rest))

-- two tests that differ at t alone count the same but for t
pub count_change : (t : ℕ) (ns : List ℕ) (p q : ℕ → Bool) → is_distinct ns ≡ true → member t ns ≡ true
    → ((u : ℕ) → t ≢ u → p u ≡ q u) → how_many q ns + bit (p t) ≡ how_many p ns + bit (q t)
count_change t [] p q d m e = grind arith
count_change t (x ∷ xs) p q d m e = change_by t x xs p q (cases_eq t x) d m e (count_change t xs p q)

-- a number that passes is counted
pub count_positive : (t : ℕ) (ns : List ℕ) (p : ℕ → Bool) → member t ns ≡ true → p t ≡ true → 0 < how_many p ns
count_positive t [] p m h = grind arith
count_positive t (x ∷ xs) p m h = grind (arith, nat_tests, count_positive t xs p)

-- a weaker test passes no fewer
pub count_weaker : (ns : List ℕ) (p q : ℕ → Bool) → ((n : ℕ) → p n ≡ true → q n ≡ true) → how_many p ns ≤ how_many q ns
count_weaker [] p q w = omega arith
count_weaker (x ∷ xs) p q w = let ih = count_weaker xs p q w in let here = w x in grind arith

-- no more numbers pass than there are
pub count_within : (ns : List ℕ) (p : ℕ → Bool) → how_many p ns ≤ length ns
count_within [] p = omega arith
count_within (x ∷ xs) p = let ih = count_within xs p in grind arith

-- the first number passes, or a later one
some_by : (x : ℕ) (xs : List ℕ) (p : ℕ → Bool) (b : Bool) → p x ≡ b → 0 < how_many p (x ∷ xs)
    → (0 < how_many p xs → (u : ℕ) × (p u ≡ true)) → (u : ℕ) × (p u ≡ true)
some_by x xs p true is l ih = (x, is)
some_by x xs p false is l ih = ih (let z = ap bit is in omega arith)

-- if the count is not 0, some number passes
pub count_some : (ns : List ℕ) (p : ℕ → Bool) → 0 < how_many p ns → (u : ℕ) × (p u ≡ true)
count_some [] p l = absurd (omega arith)
count_some (x ∷ xs) p l = some_by x xs p (p x) refl l (count_some xs p)

-- a test that nothing passes counts 0
pub count_none : (ns : List ℕ) (p : ℕ → Bool) → ((n : ℕ) → p n ≡ false) → how_many p ns ≡ 0
count_none [] p f = refl
count_none (x ∷ xs) p f = let ih = count_none xs p f in rw (f x) (omega (arith, ih))
