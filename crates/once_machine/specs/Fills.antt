-- How often a cell was filled, and how often an init gave a value, since the owner last replaced the cell.
use Rattle.std.specs.Prelude.{ℕ, Bool, true, false, if◌then◌else◌, ◌+◌, List, [], ◌∷◌}
use Rattle.once_machine.specs.Numbers.{bit}
use Rattle.once_machine.specs.Record.{RanValue, Entry, Fill, Ran, is_replacing}

-- the entry fills the cell
abbrev pub is_fill : Entry → Bool
is_fill (Fill t v X) = true
is_fill _ = false

-- the entry polls an init, which gives a value
abbrev pub gives_value : Entry → Bool
gives_value (Ran t (RanValue v)) = true
gives_value _ = false

-- how often the cell was filled since the owner last replaced it
abbrev pub times_filled : List Entry → ℕ
times_filled [] = 0
times_filled (e ∷ before) = if is_replacing e then 0 else bit (is_fill e) + times_filled before

-- how often an init gave a value since the owner last replaced the cell
abbrev pub times_given : List Entry → ℕ
times_given [] = 0
times_given (e ∷ before) = if is_replacing e then 0 else bit (gives_value e) + times_given before
