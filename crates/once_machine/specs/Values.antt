-- One value: what polls answer, and how long a value lasts.
use Rattle.std.specs.Prelude.{◌≡◌, ℕ, false, List, [], ◌∷◌}
use Rattle.once_machine.specs.Record.{Kind, Entry, End, Value, is_own}
use Rattle.once_machine.specs.Cell.{SetTo, cell}

-- a poll that ends with a value answers the one that is set
abbrev pub AnswersSet : Kind → Entry → List Entry → Type 0
AnswersSet kind (End t (Value v)) before = cell kind before ≡ SetTo v
AnswersSet kind _ before = Unit {0}

-- the value that is set stays, but for a call of the owner
abbrev pub KeepsSet : Kind → Entry → List Entry → Type 0
KeepsSet kind e before = is_own e ≡ false → (v : ℕ) → cell kind before ≡ SetTo v → cell kind (e ∷ before) ≡ SetTo v

-- polls that end with a value answer the one value that is set until the owner changes it
abbrev pub IsOneValue : Kind → List Entry → Type 0
IsOneValue kind [] = Unit {0}
IsOneValue kind (e ∷ before) = AnswersSet kind e before × KeepsSet kind e before × IsOneValue kind before
