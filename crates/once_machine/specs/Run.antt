-- Which entry may come next, and what a run of the cell is.
use Rattle.std.specs.Prelude.{◌≡◌, ◌≢◌, ◌⊎◌, ℕ, Bool, true, false, List, [], ◌∷◌, Option, Some, None}
use Rattle.once_machine.specs.Record.{Answer, RanPending, RanValue, RanError}
use Rattle.once_machine.specs.Record.{Reply, Pending, Value, Error, Memory, Full, Kind, Entry}
use Rattle.once_machine.specs.Record.{Made, Begin, Claim, Ran, Free, Fill, Pass, End, DropBegin, DropEnd, Look, Own}
use Rattle.once_machine.specs.Record.{has_call}
use Rattle.once_machine.specs.Cell.{Empty, Held, SetTo, is_set, cell, value_in, answers_left, IsNext, got}
use Rattle.once_machine.specs.Tasks.{Status, Unmade, Fresh, Polling, Dropping, Waiting, Holding}
use Rattle.once_machine.specs.Tasks.{status, last_call, all_gone}
use Rattle.once_machine.specs.Wakers.{IsDue, IsOpen, HandsOut, CallsOne}
use Rattle.once_machine.specs.Refusals.{OtherHolds, MayWantMemory, MayFindFull}

-- a poll or a drop may begin if its task is fresh, waiting or holding
abbrev pub MayBegin : Status → Type 0
MayBegin Fresh = Unit {0}
MayBegin Waiting = Unit {0}
MayBegin Holding = Unit {0}
MayBegin _ = ⊥

-- a task may free the cell in a drop, or in a poll whose init answered an error
abbrev pub MayFree : Status → Option Answer → Type 0
MayFree Dropping r = Unit {0}
MayFree Polling (Some (RanError e)) = Unit {0}
MayFree _ _ = ⊥

-- a task may pass its turn on in a drop, or in a poll that did not claim and did not run the init
abbrev pub MayPass : Status → Bool → Option Answer → Type 0
MayPass Dropping claimed r = Unit {0}
MayPass Polling false None = Unit {0}
MayPass _ _ _ = ⊥

-- how a poll of t may end.
-- One that polled the init ends as that answered: still holding, with the value set, or with the error after it freed
-- the cell. One that did not ends Pending while another task holds, with the value that is set, or with a refusal
abbrev pub MayEnd : Kind → ℕ → ℕ → Reply → Option Answer → List Entry → Type 0
MayEnd kind limit t Pending (Some RanPending) before = cell kind before ≡ Held t
MayEnd kind limit t (Value v) (Some (RanValue u)) before = (v ≡ u) × (cell kind before ≡ SetTo v)
MayEnd kind limit t (Error e) (Some (RanError f)) before = (e ≡ f) × ((last_call kind t before).freed ≡ true)
MayEnd kind limit t Pending None before = OtherHolds kind t before
MayEnd kind limit t (Value v) None before = cell kind before ≡ SetTo v
MayEnd kind limit t Memory None before = MayWantMemory kind t before
MayEnd kind limit t Full None before = MayFindFull kind limit t before
MayEnd kind limit t _ _ before = ⊥

-- the entry may come after those before it
abbrev pub IsLegal : Kind → ℕ → Entry → List Entry → Type 0
IsLegal kind limit (Made t) before = status kind t before ≡ Unmade
IsLegal kind limit (Begin t w) before = MayBegin (status kind t before)
IsLegal kind limit (Claim t) before =
    (cell kind before ≡ Empty) × (status kind t before ≡ Polling) × ((last_call kind t before).ran ≡ None)
    × ((last_call kind t before).passed ≡ false)
IsLegal kind limit (Ran t a) before =
    (cell kind before ≡ Held t) × (status kind t before ≡ Polling) × ((last_call kind t before).ran ≡ None)
    × IsNext kind a (answers_left kind before)
IsLegal kind limit (Free t X) before =
    (cell kind before ≡ Held t) × MayFree (status kind t before) (last_call kind t before).ran
    × CallsOne kind X before
IsLegal kind limit (Fill t v X) before =
    (cell kind before ≡ Held t) × (status kind t before ≡ Polling)
    × ((last_call kind t before).ran ≡ Some (RanValue v)) × HandsOut kind X before
IsLegal kind limit (Pass t X) before =
    (cell kind before ≡ Empty)
    × MayPass (status kind t before) (last_call kind t before).claimed (last_call kind t before).ran
    × ((last_call kind t before).passed ≡ false) × ((w : ℕ) × (X ≡ w ∷ []) × IsOpen kind w before)
IsLegal kind limit (End t r) before =
    (status kind t before ≡ Polling) × MayEnd kind limit t r (last_call kind t before).ran before
    × (((last_call kind t before).passed ≡ false) ⊎ (r ≡ Memory))
IsLegal kind limit (DropBegin t) before = MayBegin (status kind t before)
IsLegal kind limit (DropEnd t) before = (status kind t before ≡ Dropping) × (cell kind before ≢ Held t)
IsLegal kind limit (Look found) before = found ≡ value_in (cell kind before)
IsLegal kind limit (Own o g) before =
    (all_gone kind before ≡ true) × (has_call kind o ≡ true)
    × (g ≡ got o (cell kind before) (answers_left kind before))

-- a run of the cell: each entry may come after those before it
abbrev pub IsRun : Kind → ℕ → List Entry → Type 0
IsRun kind limit [] = Unit {0}
IsRun kind limit (e ∷ before) = IsLegal kind limit e before × IsRun kind limit before

-- P at every moment: after each beginning of the record, the empty one included
abbrev pub AtEvery : (List Entry → Type 0) → List Entry → Type 0
AtEvery P [] = P []
AtEvery P (e ∷ before) = P (e ∷ before) × AtEvery P before

-- no waiting task is forgotten: if the cell is set, no waker is due
abbrev pub NobodyForgotten : Kind → List Entry → Type 0
NobodyForgotten kind history = is_set (cell kind history) ≡ true → (w : ℕ) → IsDue kind w history → ⊥
