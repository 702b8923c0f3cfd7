-- For whoever writes a rule: what stands in a row of words or of pages, and what stands there after a step.
use Rattle.std.proofs.Common.{◌≡◌, ℕ, zero, suc, List, [], ◌∷◌, ◌++◌, set, slice_get, Option, Some, None, refl, sym, ap, subst}

module _ {X : Type 0} where
  abbrev IsThere : Option X → Type 0
  IsThere None = ⊥
  IsThere (Some x) = Unit {0}

  abbrev value_or : X → Option X → X
  value_or d None = d
  value_or d (Some x) = x

  -- nothing stands in an empty row
  pub nothing_there : (k : ℕ) (x : X) → slice_get [] k ≡ Some x → ⊥
  nothing_there k x e = subst IsThere (sym e) tt

  -- one thing stands in one place
  pub same_there : (x y : X) → Some x ≡ Some y → x ≡ y
  same_there x y e = ap (value_or x) e

  -- what stands where something was set
  pub get_set : (xs : List X) (k : ℕ) (x y : X) → slice_get xs k ≡ Some x → slice_get (set xs k y) k ≡ Some y
  get_set [] k x y e = absurd (nothing_there k x e)
  get_set (z ∷ zs) zero x y e = refl
  get_set (z ∷ zs) (suc k) x y e = get_set zs k x y e

  -- and in another place
  pub get_set_other : (xs : List X) (k j : ℕ) (y : X) → (k ≡ j → ⊥) → slice_get (set xs k y) j ≡ slice_get xs j
  get_set_other [] k j y un = refl
  get_set_other (z ∷ zs) zero zero y un = absurd (un refl)
  get_set_other (z ∷ zs) zero (suc j) y un = refl
  get_set_other (z ∷ zs) (suc k) zero y un = refl
  get_set_other (z ∷ zs) (suc k) (suc j) y un = get_set_other zs k j y (λ e. un (ap suc e))

  -- what is set to what it is, stays
  pub set_found : (xs : List X) (k : ℕ) (x : X) → slice_get xs k ≡ Some x → set xs k x ≡ xs
  set_found [] k x e = refl
  set_found (z ∷ zs) zero x e = ap (λ (y : X). y ∷ zs) (sym (same_there z x e))
  set_found (z ∷ zs) (suc k) x e = ap (λ (ys : List X). z ∷ ys) (set_found zs k x e)

  -- what stands in a row stands there too once something was put behind it
  pub get_longer : (xs ys : List X) (k : ℕ) (x : X) → slice_get xs k ≡ Some x → slice_get (xs ++ ys) k ≡ Some x
  get_longer [] ys k x e = absurd (nothing_there k x e)
  get_longer (z ∷ zs) ys zero x e = e
  get_longer (z ∷ zs) ys (suc k) x e = get_longer zs ys k x e
