-- A log is kept by the codes of its entries: what beginnings of such lists say of the logs.
use Rattle.std.proofs.Common.{◌≡◌, List, [], ◌∷◌, ◌++◌, map, refl, ap}
use mathlib.Core.List.{IsPrefix, cons≢nil}
use base.Stored.{Gv, Coded}

module _ {E : Type 0} (ce : Coded E) where
  abbrev first_or : Gv → List Gv → Gv
  first_or d [] = d
  first_or d (g ∷ gs) = g

  abbrev rest_of : List Gv → List Gv
  rest_of [] = []
  rest_of (g ∷ gs) = gs

  -- if the codes of one log begin those of another, the one begins the other
  pub prefix_of_codes : (xs ys : List E) (t : List Gv) → map ce.code xs ++ t ≡ map ce.code ys → IsPrefix xs ys
  prefix_of_codes [] ys t e = (ys, refl)
  prefix_of_codes (x ∷ xs) [] t e = absurd (cons≢nil e)
  prefix_of_codes (x ∷ xs) (y ∷ ys) t e = let r = prefix_of_codes xs ys t (ap rest_of e) in
      (r.0, λ i. ce.inj x y (ap (first_or (ce.code x)) e) i ∷ r.1 i)

  -- the codes of two logs, joined, are those of the joined log
  pub codes_joined : (xs t : List E) → map ce.code xs ++ map ce.code t ≡ map ce.code (xs ++ t)
  codes_joined [] t = refl
  codes_joined (x ∷ xs) t = ap (λ (gs : List Gv). ce.code x ∷ gs) (codes_joined xs t)
