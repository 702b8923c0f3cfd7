-- Which record belongs to which inputs. The newest input, entry and part stand first.
use Rattle.std.specs.Prelude.{◌≡◌, ◌≤◌, ℕ, Bool, true, false, if◌then◌else◌, ◌==◌, not, List, [], ◌∷◌, ◌++◌, length}
use Rattle.once_machine.specs.declared.log.QueueLine.{QueueLine}
use Rattle.once_machine.specs.Record.{Answer, Memory, Kind, Once, OnceWith, OwnerCall, Got, Entry, Made, Begin, Claim}
use Rattle.once_machine.specs.Record.{Ran, Free, Fill, Pass, End, DropBegin, DropEnd, Look, Own, has_call}
use Rattle.once_machine.specs.Cell.{cell, value_in, answers_left, got}
use Rattle.once_machine.specs.Tasks.{Status, Unmade, Fresh, Waiting, Holding, status, is_under_way, all_gone}

-- one input of a replay
pub data Input : Type 0 where
  Make : (task : ℕ) → Input  -- the task is made
  Poll : (task : ℕ) → (waker : ℕ) → Input  -- a poll of it begins, with this waker
  Drop : (task : ℕ) → Input  -- a drop of it begins
  -- its call makes one step: what an init answers that is polled in it, and whether the step is given memory
  Go : (task : ℕ) → (answer : Answer) → (granted : Bool) → Input
  Looks : Input  -- somebody looks for the value
  Owns : (owner_call : OwnerCall) → Input  -- the owner makes this call

-- one input, with what it adds
pub record Part : Type 0 where
  pub input : Input
  pub entries : List Entry  -- what it adds to the record
  pub lines : List QueueLine  -- what it adds to the queue log

-- the inputs of the parts
abbrev pub inputs_of : List Part → List Input
inputs_of [] = []
inputs_of (p ∷ before) = p.input ∷ inputs_of before

-- the entries that the parts add
abbrev pub entries_of : List Part → List Entry
entries_of [] = []
entries_of (p ∷ before) = p.entries ++ entries_of before

-- what a Make, a Poll and a Drop add, by the status of their task: nothing if they do not fit
abbrev pub make_part : Status → ℕ → List Entry
make_part Unmade t = Made t ∷ []
make_part _ t = []

-- a Poll begins a poll of a task that is fresh, waits or holds
abbrev pub poll_part : Status → ℕ → ℕ → List Entry
poll_part Fresh t w = Begin t w ∷ []
poll_part Waiting t w = Begin t w ∷ []
poll_part Holding t w = Begin t w ∷ []
poll_part _ t w = []

-- a Drop begins a drop of such a task; that of a fresh one ends at once
abbrev pub drop_part : Status → ℕ → List Entry
drop_part Fresh t = DropEnd t ∷ DropBegin t ∷ []
drop_part Waiting t = DropBegin t ∷ []
drop_part Holding t = DropBegin t ∷ []
drop_part _ t = []

-- the init of a once cell answers what the Go says
abbrev pub IsAsked : Kind → Answer → Answer → Type 0
IsAsked Once a b = b ≡ a
IsAsked (OnceWith v) a b = b ≡ a
IsAsked _ a b = Unit {0}

-- an entry that a step of t may add
abbrev pub IsOfStep : Kind → ℕ → Answer → Entry → Type 0
IsOfStep kind t a (Claim u) = u ≡ t
IsOfStep kind t a (Ran u b) = (u ≡ t) × IsAsked kind a b
IsOfStep kind t a (Free u X) = u ≡ t
IsOfStep kind t a (Fill u v X) = u ≡ t
IsOfStep kind t a (Pass u X) = u ≡ t
IsOfStep kind t a (End u r) = u ≡ t
IsOfStep kind t a (DropEnd u) = u ≡ t
IsOfStep kind t a _ = ⊥

-- a step adds at most two entries
abbrev pub AreOfStep : Kind → ℕ → Answer → List Entry → Type 0
AreOfStep kind t a [] = Unit {0}
AreOfStep kind t a (e ∷ []) = IsOfStep kind t a e
AreOfStep kind t a (e ∷ f ∷ []) = IsOfStep kind t a e × IsOfStep kind t a f
AreOfStep kind t a _ = ⊥

-- what a Go adds, by whether a call of its task is under way
abbrev pub AreOfGo : Bool → Kind → ℕ → Answer → List Entry → Type 0
AreOfGo true kind t a entries = AreOfStep kind t a entries
AreOfGo false kind t a entries = entries ≡ []

-- an owner's call fits if every made task is gone and the kind has the call
abbrev pub fits_owner : Kind → OwnerCall → List Entry → Bool
fits_owner kind o before = if all_gone kind before then has_call kind o else false

-- an owner's call and what it is given, if it fits
abbrev pub own_part : Bool → OwnerCall → Got → List Entry
own_part true o g = Own o g ∷ []
own_part false o g = []

-- an input adds these entries to those before
abbrev pub Adds : Kind → Input → List Entry → List Entry → Type 0
Adds kind (Make t) before entries = entries ≡ make_part (status kind t before) t
Adds kind (Poll t w) before entries = entries ≡ poll_part (status kind t before) t w
Adds kind (Drop t) before entries = entries ≡ drop_part (status kind t before) t
Adds kind (Go t a granted) before entries = AreOfGo (is_under_way (status kind t before)) kind t a entries
Adds kind (Owns o) before entries =
    entries ≡ own_part (fits_owner kind o before) o (got o (cell kind before) (answers_left kind before))
Adds kind Looks before entries = entries ≡ Look (value_in (cell kind before)) ∷ []

-- a call of t begins in these entries
abbrev pub begins_call : ℕ → List Entry → Bool
begins_call t [] = false
begins_call t (Begin u w ∷ before) = if u == t then true else begins_call t before
begins_call t (DropBegin u ∷ before) = if u == t then true else begins_call t before
begins_call t (_ ∷ before) = begins_call t before

-- the input is a Go of t
abbrev pub is_go_of : ℕ → Input → Bool
is_go_of t (Go u a granted) = u == t
is_go_of t _ = false

-- the input is a Go of t, and a call of t is under way
abbrev pub is_fitting_go : Kind → ℕ → Input → List Entry → Bool
is_fitting_go kind t i before = if is_go_of t i then is_under_way (status kind t before) else false

-- the Go of t that fitted since its last call began
abbrev pub gos : Kind → ℕ → List Part → List Input
gos kind t [] = []
gos kind t (p ∷ before) =
    if begins_call t p.entries
    then []
    else (if is_fitting_go kind t p.input (entries_of before)
    then p.input ∷ gos kind t before
    else gos kind t before)

-- the input is a Go that is given no memory
abbrev pub is_ungranted : Input → Bool
is_ungranted (Go u a granted) = not granted
is_ungranted _ = false

-- no Go of the list is given no memory
abbrev pub all_granted : List Input → Bool
all_granted [] = true
all_granted (i ∷ inputs) = if is_ungranted i then false else all_granted inputs

-- a poll of t ends for want of memory in these entries
abbrev pub ends_for_memory : ℕ → List Entry → Bool
ends_for_memory t [] = false
ends_for_memory t (End u Memory ∷ before) = if u == t then true else ends_for_memory t before
ends_for_memory t (_ ∷ before) = ends_for_memory t before

-- only a call that met a Go without memory ends for want of it
abbrev pub WantsMemoryOnlyUngranted : Kind → List Part → Type 0
WantsMemoryOnlyUngranted kind [] = Unit {0}
WantsMemoryOnlyUngranted kind (p ∷ before) =
    (t : ℕ) → ends_for_memory t p.entries ≡ true → all_granted (gos kind t (p ∷ before)) ≡ false

-- a call that met sixteen fitting Go has ended
abbrev pub SixteenEnd : Kind → List Part → Type 0
SixteenEnd kind parts =
    (t : ℕ) → 16 ≤ length (gos kind t parts) → is_under_way (status kind t (entries_of parts)) ≡ false

-- each part has what its input adds
abbrev pub AreAdded : Kind → List Part → Type 0
AreAdded kind [] = Unit {0}
AreAdded kind (p ∷ before) = Adds kind p.input (entries_of before) p.entries × AreAdded kind before

-- P after the parts of any first inputs
abbrev pub Always : (List Part → Type 0) → List Part → Type 0
Always P [] = P []
Always P (p ∷ before) = P (p ∷ before) × Always P before

-- the record falls into these parts, one for each input
pub record FallsInto (kind : Kind) (inputs : List Input) (history : List Entry) (parts : List Part) : Type 0 where
  pub inputs_are : inputs_of parts ≡ inputs  -- there is one part for each input
  pub entries_are : entries_of parts ≡ history  -- the record is all their entries
  pub added : AreAdded kind parts  -- each part has the entries that its input adds
  pub sixteen_end : Always (SixteenEnd kind) parts  -- a call that was given sixteen steps has ended
  pub memory : Always (WantsMemoryOnlyUngranted kind) parts  -- only a call that was refused memory ended for want of it
