-- Of two beginnings of one log one begins the other.
use Rattle.std.proofs.Common.{◌≡◌, List, [], ◌∷◌, refl, sym, ap, ◌∙◌}
use mathlib.Core.List.{IsPrefix, cons≢nil}
use mathlib.Core.Logic.{◌⊎◌, inl, inr}

module _ {X : Type 0} where
  abbrev first_or : X → List X → X
  first_or d [] = d
  first_or d (x ∷ xs) = x

  abbrev rest_of : List X → List X
  rest_of [] = []
  rest_of (x ∷ xs) = xs

  -- the same with one entry before both
  one_more : (x y : X) (xs ys : List X) → x ≡ y → IsPrefix xs ys ⊎ IsPrefix ys xs
      → IsPrefix (x ∷ xs) (y ∷ ys) ⊎ IsPrefix (y ∷ ys) (x ∷ xs)
  one_more x y xs ys e (inl p) = inl (p.0, λ i. e i ∷ p.1 i)
  one_more x y xs ys e (inr p) = inr (p.0, λ i. sym e i ∷ p.1 i)

  pub one_begins : (xs ys zs : List X) → IsPrefix xs zs → IsPrefix ys zs → IsPrefix xs ys ⊎ IsPrefix ys xs
  one_begins [] ys zs p q = inl (ys, refl)
  one_begins (x ∷ xs) [] zs p q = inr (x ∷ xs, refl)
  one_begins (x ∷ xs) (y ∷ ys) [] p q = absurd (cons≢nil p.1)
  one_begins (x ∷ xs) (y ∷ ys) (z ∷ zs) p q = one_more x y xs ys (ap (first_or x) p.1 ∙ sym (ap (first_or y) q.1))
      (one_begins xs ys zs (p.0, ap rest_of p.1) (q.0, ap rest_of q.1))
