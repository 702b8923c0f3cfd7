-- What a record tells. Its words are those of once_machine, and the answers of inits and polls are types of the code.
-- And what is known of a record, as far as it was seen.
use Rattle.std.specs.Prelude.{◌≡◌, ℕ, Bool, true, false, if◌then◌else◌, List, [], ◌∷◌, ◌++◌, Some, None, reverse}
use mathlib.Core.List.{IsPrefix}
use Rattle.pagebook.specs.Pages.{View}
use Rattle.once_machine.specs.Word.{flags_of}
use Rattle.once_machine.specs.Cell.{cell, is_set}
use Rattle.async_once_cell.specs.Kept.{Sheet, entries_of}
pub use Rattle.once_machine.specs.Record.{Kind, Once, OnceWith, Lazy, LazyWith}
pub use Rattle.once_machine.specs.Record.{OwnerCall, Take, Write, Parts, ReplaceValue, ReplaceAnswers}
pub use Rattle.once_machine.specs.Record.{Got, GotNone, GotValue, GotAnswers}
pub use Rattle.once_machine.specs.Record.{Entry, Made, Begin, Claim, Ran, Free, Fill, Pass, End, DropBegin, DropEnd}
pub use Rattle.once_machine.specs.Record.{Look, Own}
pub use Rattle.once_machine.specs.Record.{is_of, handed_by, made_in, is_lazy, has_call, replaces, is_own, is_replacing}
pub use Rattle.once_machine.specs.declared.record.Ran.{Ran as Answer}
pub use Rattle.once_machine.specs.declared.record.Ran.TheVariants.{Pending as RanPending, Value as RanValue}
pub use Rattle.once_machine.specs.declared.record.Ran.TheVariants.{Error as RanError}
pub use Rattle.once_machine.specs.declared.record.Reply.{Reply}
pub use Rattle.once_machine.specs.declared.record.Reply.TheVariants.{Pending, Value, Error, Memory, Full}

-- a Fill stands in it: the value was set
abbrev pub WasFilled : List Entry → Type 0
WasFilled log =
    (t : ℕ) × (X : List ℕ) × ((before : List Entry) × (after : List Entry) × (log ≡ before ++ Fill t 0 X ∷ after))

-- the cell is set after its entries
abbrev pub IsSet : List Entry → Type 0
IsSet log = is_set (cell Once (reverse log)) ≡ true

-- its newest entry is the end of a call of t that answered the value
abbrev pub EndsSet : ℕ → List Entry → Type 0
EndsSet t log = (before : List Entry) × (log ≡ before ++ End t (Value 0) ∷ [])

-- of the entries of one task: it polled its init once at most since each beginning of a call.
-- The first says whether it did since the last beginning before these
abbrev pub AreOnce : Bool → List Entry → Type 0
AreOnce ran [] = Unit {0}
AreOnce ran (Begin t w ∷ es) = AreOnce false es
AreOnce ran (DropBegin t ∷ es) = AreOnce false es
AreOnce ran (Ran t a ∷ es) = (ran ≡ false) × AreOnce true es
AreOnce ran (_ ∷ es) = AreOnce ran es

-- each task polled its init once at most in each of its calls
abbrev pub PollsOnce : List Entry → Type 0
PollsOnce log = (t : ℕ) → AreOnce false (entries_of t log)

-- of the entries of one task: since the last beginning of a call its init gave a value.
-- The first says whether it did since the last beginning before these
abbrev pub gave_since : Bool → List Entry → Bool
gave_since gave [] = gave
gave_since gave (Begin t w ∷ es) = gave_since false es
gave_since gave (DropBegin t ∷ es) = gave_since false es
gave_since gave (Ran t (RanValue v) ∷ es) = gave_since true es
gave_since gave (_ ∷ es) = gave_since gave es

-- the init of the task t gave a value since its last call began
abbrev pub gave_value : ℕ → List Entry → Bool
gave_value t log = gave_since false (entries_of t log)

-- a look that came after all that was seen, and found the value exactly if the cell was set then
abbrev pub Looked : Bool → List Entry → List Entry → Type 0
Looked found old new =
    (before : List Entry) × IsPrefix old before × (new ≡ before ++ Look (if found then Some 0 else None) ∷ [])
    × (is_set (cell Once (reverse new)) ≡ found)

-- what a look tells, by the word
abbrev pub Looks : View Entry Sheet → ℕ → View Entry Sheet → Type 0
Looks v n w = Looked (flags_of n).ready v.0 w.0 × ((flags_of n).ready ≡ true → WasFilled w.0)
