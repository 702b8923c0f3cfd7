-- Which entry may come next, by what is kept of those before it; and whether some task was woken. Each word is one of
-- `once_machine` with "In" behind it, and is decided by a look at what is kept.
use Rattle.std.specs.Prelude.{◌≡◌, ◌≢◌, ◌≤◌, ◌<◌, ◌⊎◌, ◌||◌, ℕ, Bool, true, false, nat_lt, nat_le}
use Rattle.std.specs.Prelude.{List, [], ◌∷◌, Option, Some, None, length}
use Rattle.once_machine.specs.Numbers.{member, is_distinct}
use Rattle.once_machine.specs.declared.record.Ran.{Ran as Answer}
use Rattle.once_machine.specs.declared.record.Ran.TheVariants.{Pending as RanPending, Value as RanValue}
use Rattle.once_machine.specs.declared.record.Ran.TheVariants.{Error as RanError}
use Rattle.once_machine.specs.declared.record.Reply.{Reply}
use Rattle.once_machine.specs.declared.record.Reply.TheVariants.{Pending, Value, Error, Memory, Full}
use Rattle.once_machine.specs.Record.{Kind, Once, Lazy, Entry, Made, Begin, Claim, Ran, Free, Fill, Pass, End}
use Rattle.once_machine.specs.Record.{DropBegin, DropEnd, Look, Own, OwnerCall, has_call}
use Rattle.once_machine.specs.Cell.{Empty, Held, SetTo, is_set, value_in, next_answer, got}
use Rattle.once_machine.specs.Tasks.{Status, Unmade, Fresh, Polling, Dropping, Waiting, Gone, is_under_way}
use Rattle.once_machine.specs.Run.{MayBegin, MayFree, MayPass}
use Rattle.once_judge.specs.declared.calls.Calls.{Calls}
use Rattle.once_judge.specs.declared.calls.Calls.TheVariants.{One as ToOne, All as ToAll}
use Rattle.once_judge.specs.Seen.{TaskSeen, Seen, other_held}

-- t waits, w is the waker of its last poll, and was not handed out since that poll ended
abbrev pub IsDueFor : ℕ → ℕ → Seen → Type 0
IsDueFor t w S =
    ((S.task t).status ≡ Waiting) × ((S.task t).call.waker ≡ w) × (nat_lt (S.task t).ended (S.handed w) ≡ false)

-- w is due
abbrev pub IsDueIn : ℕ → Seen → Type 0
IsDueIn w S = (t : ℕ) × IsDueFor t w S

-- what a release with a value hands out
pub record HandsOutIn (X : List ℕ) (S : Seen) : Type 0 where
  pub once : is_distinct X ≡ true
  pub due : (w : ℕ) → IsDueIn w S → member w X ≡ true
  pub open_alone : (w : ℕ) → member w X ≡ true → 0 < S.times w

-- what a release without a value hands out
pub record CallsOneIn (X : List ℕ) (S : Seen) : Type 0 where
  pub one : length X ≤ 1
  pub due : (w : ℕ) → IsDueIn w S → X ≢ []
  pub open_alone : (w : ℕ) → member w X ≡ true → 0 < S.times w

-- the same, by either rule
abbrev pub CallsIn : Calls → List ℕ → Seen → Type 0
CallsIn ToOne X S = CallsOneIn X S
CallsIn ToAll X S = HandsOutIn X S

-- another task holds
abbrev pub OtherHoldsIn : ℕ → Seen → Type 0
OtherHoldsIn t S = (u : ℕ) × (t ≢ u) × (S.cell ≡ Held u)

-- since its poll began another task held
abbrev pub held_since : ℕ → Seen → Bool
held_since t S = nat_le (S.task t).begun (other_held t S)

-- since its poll began another task held or was in a call
abbrev pub acted_since : ℕ → Seen → Bool
acted_since t S = held_since t S || nat_le (S.task t).begun S.acting_at

-- since its poll began its crowd had limit tasks
abbrev pub crowded_since : ℕ → Seen → Bool
crowded_since t S = nat_le (S.task t).begun S.crowded_at

-- memory may be refused, by what t was at its Begin
abbrev pub MemoryFromIn : Status → ℕ → Seen → Type 0
MemoryFromIn Fresh t S = ((S.task t).call.set_then ≡ false) × (acted_since t S ≡ true)
MemoryFromIn Waiting t S = held_since t S ≡ true
MemoryFromIn _ t S = ⊥

-- how a poll may end
abbrev pub MayEndIn : ℕ → Reply → Option Answer → Seen → Type 0
MayEndIn t Pending (Some RanPending) S = S.cell ≡ Held t
MayEndIn t (Value v) (Some (RanValue u)) S = (v ≡ u) × (S.cell ≡ SetTo v)
MayEndIn t (Error e) (Some (RanError f)) S = (e ≡ f) × ((S.task t).call.freed ≡ true)
MayEndIn t Pending None S = OtherHoldsIn t S
MayEndIn t (Value v) None S = S.cell ≡ SetTo v
MayEndIn t Memory None S = ((S.task t).call.claimed ≡ false) × MemoryFromIn (S.task t).call.began t S
MayEndIn t Full None S =
    ((S.task t).call.began ≡ Fresh) × ((S.task t).call.claimed ≡ false) × (crowded_since t S ≡ true)
    × (is_set S.cell ≡ false)
MayEndIn t _ _ S = ⊥

-- the init of a lazy cell gives the next answer
abbrev pub IsNextIn : Bool → Answer → List (Option ℕ) → Type 0
IsNextIn true a l = a ≡ next_answer l
IsNextIn false a l = Unit {0}

-- a kind that is lazy, and one that is not
abbrev pub kind_by : Bool → Kind
kind_by true = Lazy []
kind_by false = Once

-- a cell that is lazy or not has this owner's call
abbrev pub has_call_in : Bool → OwnerCall → Bool
has_call_in lazy o = has_call (kind_by lazy) o

-- each task was not made, or is gone
abbrev pub AllGoneIn : Seen → Type 0
AllGoneIn S = (t : ℕ) → ((S.task t).status ≡ Unmade) ⊎ ((S.task t).status ≡ Gone)

-- the entry may come next
abbrev pub IsLegalIn : Calls → Bool → Entry → Seen → Type 0
IsLegalIn calls lazy (Made t) S = (S.task t).status ≡ Unmade
IsLegalIn calls lazy (Begin t w) S = MayBegin (S.task t).status
IsLegalIn calls lazy (Claim t) S =
    (S.cell ≡ Empty) × ((S.task t).status ≡ Polling) × ((S.task t).call.ran ≡ None)
    × ((S.task t).call.passed ≡ false)
IsLegalIn calls lazy (Ran t a) S =
    (S.cell ≡ Held t) × ((S.task t).status ≡ Polling) × ((S.task t).call.ran ≡ None)
    × IsNextIn lazy a S.answers
IsLegalIn calls lazy (Free t X) S =
    (S.cell ≡ Held t) × MayFree (S.task t).status (S.task t).call.ran × CallsIn calls X S
IsLegalIn calls lazy (Fill t v X) S =
    (S.cell ≡ Held t) × ((S.task t).status ≡ Polling) × ((S.task t).call.ran ≡ Some (RanValue v)) × HandsOutIn X S
IsLegalIn calls lazy (Pass t X) S =
    (S.cell ≡ Empty) × MayPass (S.task t).status (S.task t).call.claimed (S.task t).call.ran
    × ((S.task t).call.passed ≡ false) × ((w : ℕ) × (X ≡ w ∷ []) × (0 < S.times w))
IsLegalIn calls lazy (End t r) S =
    ((S.task t).status ≡ Polling) × MayEndIn t r (S.task t).call.ran S
    × (((S.task t).call.passed ≡ false) ⊎ (r ≡ Memory))
IsLegalIn calls lazy (DropBegin t) S = MayBegin (S.task t).status
IsLegalIn calls lazy (DropEnd t) S = ((S.task t).status ≡ Dropping) × (S.cell ≢ Held t)
IsLegalIn calls lazy (Look found) S = found ≡ value_in S.cell
IsLegalIn calls lazy (Own o g) S = AllGoneIn S × (has_call_in lazy o ≡ true) × (g ≡ got o S.cell S.answers)

-- the task waits, or is in a call that it began while waiting, and in which it neither claimed nor passed its turn on
abbrev pub HasWaited : TaskSeen → Type 0
HasWaited x =
    (x.status ≡ Waiting)
    ⊎ ((is_under_way x.status ≡ true) × (x.call.began ≡ Waiting) × (x.call.claimed ≡ false) × (x.call.passed ≡ false))

-- it has waited, and the waker of its last poll that ended Pending was handed out since
abbrev pub WasCalled : TaskSeen → Seen → Type 0
WasCalled x S = HasWaited x × (nat_lt x.ended (S.handed x.call.listed) ≡ true)

-- t was woken
abbrev pub IsCalledIn : ℕ → Seen → Type 0
IsCalledIn t S = WasCalled (S.task t) S

-- if the cell is empty and some task waits, some task was woken
abbrev pub SomebodyCalledIn : Seen → Type 0
SomebodyCalledIn S = S.cell ≡ Empty → (u : ℕ) → (S.task u).status ≡ Waiting → (t : ℕ) × IsCalledIn t S

-- the cell is empty, the task waits, and no task was woken
abbrev pub IsForgottenIn : ℕ → Seen → Type 0
IsForgottenIn t S = (S.cell ≡ Empty) × ((S.task t).status ≡ Waiting) × ((u : ℕ) → IsCalledIn u S → ⊥)
