-- A table as clauses see it: its keys, in their order, each with its cell.
use Rattle.std.specs.Prelude.{◌≡◌, ◌*◌, ℕ, true, List, [], ◌∷◌, Option, IfSome}
use Rattle.std.specs.Ordering.{nat_cmp}
use Rattle.std.specs.BTreeMap.{is_at}
use Rattle.std.specs.Map.{lookup}
use Rattle.async_once_cell.specs.Views.{CellView, about_of, is_shared}

-- the key's cell, if the key has one
abbrev pub cell_of : {C : Type 0} → List (ℕ × C) → ℕ → Option C
cell_of table key = lookup (is_at (nat_cmp key)) table

-- tasks share the cell, and what it promises is about this key
abbrev pub IsAbout : {T : Type 0} → ℕ → CellView T → Type 0
IsAbout key cell = (is_shared cell ≡ true) × (about_of cell ≡ key ∷ [])

-- what the cell of each key promises is about that key
abbrev pub AreAboutKeys : {T : Type 0} → List (ℕ × CellView T) → Type 0
AreAboutKeys table = (key : ℕ) → IfSome (cell_of table key) (IsAbout key)

-- the key: the number about which something is promised
abbrev pub key_of : List ℕ → ℕ
key_of [] = 0
key_of (key ∷ others) = key

-- the value is ten times the key
abbrev pub IsTenTimes : List ℕ → ℕ → Type 0
IsTenTimes about value = value ≡ key_of about * 10
