-- The rule of a line that one comes to first.
use Rattle.std.specs.Prelude.{◌≡◌, ℕ, ◌≤◌, List, [], ◌∷◌, length}
use Rattle.pagebook.specs.Pages.{View}
use Rattle.pagebook_uses.specs.declared.first.Medal.{Medal}

-- what a page says, which is nothing
abbrev pub medal : Medal
medal = record {}

-- the rule
pub record IsGiven (ns : List ℕ) (ps : List Medal) : Type 0 where
  pub words : ns ≡ length ps ∷ []  -- the word says how many medals there are
  pub one : length ps ≤ 1  -- there is one at most

-- a thread that finds 0 has the pen of page 0
abbrev pub Came : {E : Type 0} → View E Medal → ℕ → View E Medal → Type 0
Came v n w = n ≡ 0 → w.1 ≡ (0, medal) ∷ v.1
