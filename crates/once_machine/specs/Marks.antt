-- Which numbers are marked.
use Rattle.std.specs.Prelude.{ℕ, zero, suc, Bool, false, List, [], ◌∷◌}

-- whether n is marked; what is past the end is not
abbrev pub is_marked : ℕ → List Bool → Bool
is_marked n [] = false
is_marked zero (b ∷ bs) = b
is_marked (suc n) (b ∷ bs) = is_marked n bs
