-- The cell that a history leaves: empty, held by one task or set; and the answers that a lazy init has left, and
-- which it gives next.
use Rattle.std.specs.Prelude.{◌≡◌, ℕ, Bool, true, false, List, [], ◌∷◌, Option, Some, None}
use Rattle.once_machine.specs.Record.{Answer, RanPending, RanValue, Kind, Once, OnceWith, Lazy, LazyWith}
use Rattle.once_machine.specs.Record.{OwnerCall, Take, Write, Parts, ReplaceValue, ReplaceAnswers, Got, GotNone}
use Rattle.once_machine.specs.Record.{GotValue, GotAnswers, Entry, Claim, Ran, Free, Fill, Own}

-- what a cell is
pub data Cell : Type 0 where
  Empty : Cell  -- it has no value, and no task has the right
  Held : (task : ℕ) → Cell  -- this task has the right
  SetTo : (value : ℕ) → Cell  -- it is set to this value

-- the value is set
abbrev pub is_set : Cell → Bool
is_set (SetTo v) = true
is_set _ = false

-- what a look finds
abbrev pub value_in : Cell → Option ℕ
value_in (SetTo v) = Some v
value_in _ = None

-- how the cell starts
abbrev pub first_cell : Kind → Cell
first_cell Once = Empty
first_cell (OnceWith v) = SetTo v
first_cell (Lazy l) = Empty
first_cell (LazyWith v) = SetTo v

-- Write changes the value if one is set
abbrev pub write_cell : ℕ → Cell → Cell
write_cell v (SetTo u) = SetTo v
write_cell v c = c

-- the cell after an owner's call
abbrev pub cell_after_call : OwnerCall → Cell → Cell
cell_after_call Take c = Empty
cell_after_call (Write v) c = write_cell v c
cell_after_call Parts c = Empty
cell_after_call (ReplaceValue v) c = SetTo v
cell_after_call (ReplaceAnswers l) c = Empty

-- a claim, a release and an owner's call change the cell, and nothing else does
abbrev pub cell_after : Entry → Cell → Cell
cell_after (Claim t) c = Held t
cell_after (Free t X) c = Empty
cell_after (Fill t v X) c = SetTo v
cell_after (Own o g) c = cell_after_call o c
cell_after _ c = c

-- the cell after these entries
abbrev pub cell : Kind → List Entry → Cell
cell kind [] = first_cell kind
cell kind (e ∷ before) = cell_after e (cell kind before)

-- the answers that a lazy init will give
abbrev pub first_answers : Kind → List (Option ℕ)
first_answers (Lazy l) = l
first_answers _ = []

-- the answers without the first
abbrev pub rest_of : List (Option ℕ) → List (Option ℕ)
rest_of [] = []
rest_of (a ∷ l) = l

-- the answers after an owner's call
abbrev pub answers_after_call : OwnerCall → List (Option ℕ) → List (Option ℕ)
answers_after_call Parts l = []
answers_after_call (ReplaceValue v) l = []
answers_after_call (ReplaceAnswers k) l = k
answers_after_call _ l = l

-- each poll of the init takes the first answer off, and an owner's call may replace them
abbrev pub answers_after : Entry → List (Option ℕ) → List (Option ℕ)
answers_after (Ran t a) l = rest_of l
answers_after (Own o g) l = answers_after_call o l
answers_after _ l = l

-- the answers left after these entries
abbrev pub answers_left : Kind → List Entry → List (Option ℕ)
answers_left kind [] = first_answers kind
answers_left kind (e ∷ before) = answers_after e (answers_left kind before)

-- the next answer of a lazy init: pending if none is left
abbrev pub next_answer : List (Option ℕ) → Answer
next_answer (Some v ∷ l) = RanValue v
next_answer _ = RanPending

-- the init of a lazy cell gives the next answer
abbrev pub IsNext : Kind → Answer → List (Option ℕ) → Type 0
IsNext (Lazy k) a l = a ≡ next_answer l
IsNext (LazyWith v) a l = a ≡ next_answer l
IsNext _ a l = Unit {0}

-- the value, if one is set
abbrev pub got_value : Cell → Got
got_value (SetTo v) = GotValue v
got_value _ = GotNone

-- the value if one is set, else the answers left
abbrev pub got_parts : Cell → List (Option ℕ) → Got
got_parts (SetTo v) l = GotValue v
got_parts _ l = GotAnswers l

-- what an owner's call is given
abbrev pub got : OwnerCall → Cell → List (Option ℕ) → Got
got Parts c l = got_parts c l
got _ c l = got_value c
