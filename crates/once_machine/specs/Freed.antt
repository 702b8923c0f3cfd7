-- When a task has given the right back without a value.
use Rattle.std.specs.Prelude.{◌≡◌, ℕ, List, ◌∷◌}
use Rattle.once_machine.specs.Record.{Kind, Entry, Free}
use Rattle.once_machine.specs.Cell.{Empty, cell}

-- t has just done so, and the cell is empty
abbrev pub HasFreed : Kind → ℕ → List Entry → Type 0
HasFreed kind t history =
    ((X : List ℕ) × (before : List Entry) × (history ≡ Free t X ∷ before)) × (cell kind history ≡ Empty)
