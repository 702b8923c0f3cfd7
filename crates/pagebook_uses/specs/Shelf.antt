-- The rule of the shelf, and what each step tells.
use Rattle.std.specs.Prelude.{◌≡◌, ℕ, List, [], ◌∷◌}
use Rattle.pagebook.specs.Pages.{View, rewritten}
use Rattle.pagebook_uses.specs.declared.shelf.Filled.{Filled}
use Rattle.pagebook_uses.specs.declared.shelf.Stage.{Stage}
use Rattle.pagebook_uses.specs.declared.shelf.Stage.TheVariants.{Empty, Writing, Full, Open}

-- the bit at each stage
abbrev pub bit_of : Stage → ℕ
bit_of Empty = 0
bit_of Writing = 0
bit_of Full = 0
bit_of Open = 1

-- the state of the slot at each stage
abbrev pub state_of : Stage → ℕ
state_of Empty = 0
state_of Writing = 1
state_of Full = 2
state_of Open = 2

-- the entry
abbrev pub filled : Filled
filled = record {}

-- the log at each stage
abbrev pub log_of : Stage → List Filled
log_of Empty = []
log_of Writing = []
log_of Full = filled ∷ []
log_of Open = filled ∷ []

-- the rule
pub record IsShelf (ns : List ℕ) (ps : List Stage) (log : List Filled) : Type 0 where
  pub stage : Stage  -- how far the shelf is
  pub words : ns ≡ bit_of stage ∷ state_of stage ∷ []  -- the words are the bit and the state of the slot
  pub page : ps ≡ stage ∷ []  -- the one page says the stage
  pub entries : log ≡ log_of stage  -- the entry stands in the log once the slot is full

-- the thread that fills came to the stage s, and the log is as it is there
abbrev pub Came : Stage → View Filled Stage → ℕ → View Filled Stage → Type 0
Came s v n w = (w.1 ≡ rewritten (s ∷ []) v.1) × (w.0 ≡ log_of s)

-- nothing changed, and if the bit was found, the value was put
abbrev pub Looked : View Filled Stage → ℕ → View Filled Stage → Type 0
Looked v n w = (w.1 ≡ v.1) × (n ≡ 1 → w.0 ≡ filled ∷ [])
