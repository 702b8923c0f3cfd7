-- How many visitors are inside, after a page was set or added.
use Rattle.std.proofs.Common.{◌≡◌, ℕ, zero, suc, ◌+◌, List, [], ◌∷◌, ◌++◌, set, slice_get, Some, arith, ap}
use Rattle.pagebook.proofs.Rows.{nothing_there, same_there}
use Rattle.pagebook_uses.specs.declared.hall.Page.{Page}
use Rattle.pagebook_uses.specs.Hall.{counts, inside}

-- a page that is set counts as it says then
pub inside_set : (ps : List Page) (k : ℕ) (p q : Page) → slice_get ps k ≡ Some p
    → inside (set ps k q) + counts p ≡ inside ps + counts q
inside_set [] k p q at = absurd (nothing_there k p at)
inside_set (r ∷ rs) zero p q at = let same : counts r ≡ counts p = ap counts (same_there r p at) in omega (arith, same)
inside_set (r ∷ rs) (suc k) p q at = omega (arith, inside_set rs k p q at)

-- and so does a page that is added
pub inside_added : (ps : List Page) (p : Page) → inside (ps ++ p ∷ []) ≡ inside ps + counts p
inside_added [] p = omega arith
inside_added (q ∷ qs) p = omega (arith, inside_added qs p)
