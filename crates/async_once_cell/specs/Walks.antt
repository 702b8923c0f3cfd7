-- What a whole call of a task makes of the record.
use Rattle.std.specs.Prelude.{◌≡◌, ℕ, Bool, true, false, List, [], ◌∷◌, ◌++◌, ⊤}
use mathlib.Core.List.{IsPrefix}
use Rattle.once_machine.specs.declared.step.Ending.{Ending}
use Rattle.once_machine.specs.declared.step.Ending.TheVariants.{Pending as EndPending, Value as EndValue}
use Rattle.once_machine.specs.declared.step.Ending.TheVariants.{Error as EndError, Memory as EndMemory, Full as EndFull}
use Rattle.once_machine.specs.declared.step.Ending.TheVariants.{Dropped as EndDropped}
use Rattle.once_machine.specs.declared.step.Progress.{Progress}
use Rattle.once_machine.specs.declared.step.Progress.TheVariants.{More, Ended}
use Rattle.once_machine.specs.declared.step.Step.{Step}
use Rattle.once_machine.specs.declared.step.Step.TheVariants.{Resting, UnderWay, Finished}
use Rattle.once_machine.specs.declared.step.Place.{Place}
use Rattle.once_machine.specs.declared.step.Place.TheVariants.{Put as AtPut, Fast as AtFast, AddOne as AtAddOne}
use Rattle.once_machine.specs.declared.step.Place.TheVariants.{DoorAgain as AtDoorAgain, Release as AtRelease}
use Rattle.once_machine.specs.declared.step.Place.TheVariants.{Leave as AtLeave}
use Rattle.once_machine.specs.declared.step.Place.TheVariants.{CountOut as AtCountOut, DoorTake as AtDoorTake}
use Rattle.once_machine.specs.Steps.{is_resting}
use Rattle.once_machine.specs.Record.{Begin, Claim, DropEnd, End, Entry, Fill, Free, Pass, Ran, handed_by}
use Rattle.once_machine.specs.declared.record.Ran.TheVariants.{Error as RanError}
use Rattle.once_machine.specs.declared.record.Reply.TheVariants.{Error, Full, Memory, Pending, Value}
use Rattle.once_machine.specs.Machine.{progress_entries}
use Rattle.async_once_cell.specs.Kept.{Grew, entries_of}
use Rattle.async_once_cell.specs.Inner.Steps.{StandsForStep}
use Rattle.async_once_cell.specs.Inner.Own.{Own}
use Rattle.async_once_cell.specs.Record.{gave_since}
use Rattle.async_once_cell.specs.Inner.Sides.{IsReady, Sided, has_given}

-- the tasks whose wakers these entries hand out, in their order
abbrev pub handed : List Entry → List ℕ
handed [] = []
handed (e ∷ es) = handed_by e ++ handed es

-- a task does this in a call, between its beginning and its end
abbrev pub is_mid : Entry → Bool
is_mid (Claim t) = true
is_mid (Ran t a) = true
is_mid (Free t X) = true
is_mid (Fill t v X) = true
is_mid (Pass t X) = true
is_mid _ = false

-- each of these entries is of that kind
abbrev pub AreMid : List Entry → Type 0
AreMid [] = Unit {0}
AreMid (e ∷ es) = (is_mid e ≡ true) × AreMid es

-- the task t made one call, which began and ended so: those are its own entries since then, and between them these
pub record IsCall (t : ℕ) (begin end : Entry) (mid old new : List Entry) : Type 0 where
  pub own : entries_of t new ≡ entries_of t old ++ (begin ∷ (mid ++ end ∷ []))
  pub between : AreMid mid

-- the same, but it is not said what it did between
pub record IsOneCall (t : ℕ) (begin end : Entry) (old new : List Entry) : Type 0 where
  pub mid : List Entry  -- what it did between
  pub is : IsCall t begin end mid old new  -- its own entries since then

-- a poll of t began after all that was seen before, and this entry, with which it ends, is the newest
pub record Spans (t : ℕ) (e : Entry) (old new : List Entry) : Type 0 where
  pub before : List Entry  -- what stood in the record as it began
  pub since : List Entry  -- what came between
  pub after : IsPrefix old before
  pub is : new ≡ before ++ Begin t t ∷ (since ++ e ∷ [])

-- how a call may end. A drop ends as dropped. A poll is refused, or it ends with an error that its own init gave, or
-- with a value; then the side has no value left that it did not put
abbrev pub MayEnd : Bool → Sided → Own → Ending → Type 0
MayEnd true x v EndDropped = Unit {0}
MayEnd true x v e = ⊥
MayEnd false x v EndDropped = ⊥
MayEnd false x v EndPending = ⊥
MayEnd false x v EndError = (x.has_error ≡ true) × (v.task.kept ≡ RanError 0)
MayEnd false x v EndValue = x.has_value ≡ false
MayEnd false x v e = Unit {0}

-- a poll began, and nobody was handed out in it
abbrev pub HasBegun : Bool → Sided → Own → Type 0
HasBegun drops x v = (drops ≡ false) × (x.woke ≡ []) × (v.task.waker ≡ v.number)

-- the same, and the init is there still, and gave no value
abbrev pub GoesOn : Bool → Sided → Own → Type 0
GoesOn drops x v = HasBegun drops x v × IsReady x

module _ {W Q : Type 0} (drops : Bool) (x : Sided) (v : Own) where
  -- what holds at each place of a call, by whether it is a drop
  abbrev pub FitsAt : Place W Q → Type 0
  FitsAt (AtPut by) = HasBegun drops x v × (x.has_value ≡ true)
  FitsAt (AtFast e) = (x.woke ≡ []) × MayEnd drops x v e
  FitsAt (AtAddOne e) = (x.woke ≡ []) × MayEnd drops x v e
  FitsAt (AtDoorAgain e) = (x.woke ≡ []) × MayEnd drops x v e
  FitsAt (AtRelease q e) = (x.woke ≡ []) × MayEnd drops x v e
  FitsAt (AtLeave q n e) = (x.woke ≡ []) × MayEnd drops x v e
  FitsAt (AtCountOut e) = MayEnd drops x v e
  FitsAt (AtDoorTake e) = MayEnd drops x v e
  FitsAt _ = GoesOn drops x v

  -- the same of a step, and of what was told of the call
  abbrev pub Fits : Progress → Step W Q → Type 0
  Fits r (UnderWay p) = (r ≡ More) × FitsAt p
  Fits r (Resting rest) = (r ≡ Ended EndPending) × GoesOn drops x v
  Fits r Finished = (e : Ending) × (r ≡ Ended e) × MayEnd drops x v e

-- there is one queue: the page has its number, and the code keeps nothing of it
abbrev pub the_queue : ℕ → ⊤
the_queue n = tt

-- the code's step stands for that of the page, by the task of each waker
abbrev pub StandsOn : {W : Type 0} → (W → ℕ) → Own → Step W ⊤ → Type 0
StandsOn whose v s = StandsForStep whose (λ q. q) the_queue s v.task.step

-- the side is the task's, and its call has come so far
pub record Stands {W : Type 0} (whose : W → ℕ) (drops : Bool) (x : Sided) (v : Own)
    (r : Progress) (s : Step W ⊤) : Type 0 where
  pub step : StandsOn whose v s  -- the code's step stands for the page's
  pub number : x.number ≡ v.number  -- the side is the task's
  pub fits : Fits drops x v r s  -- what holds at this place of a call does hold

-- from x and v to y and w a call made its steps, the last of which told r
pub record Walked (x : Sided) (v : Own) (r : Progress) (y : Sided) (w : Own) : Type 0 where
  pub number : w.number ≡ v.number  -- it is the same task
  pub ends : Grew (progress_entries r w.number 0 w.task.kept) v.log w.log  -- an end is the newest entry
  -- the tasks that were handed to the side are those that the entries of the steps name, and its init gave a value
  -- if these say so, or if it had given one before
  pub made : (mid : List Entry) × AreMid mid
      × (entries_of v.number w.log ≡ entries_of v.number v.log ++ (mid ++ progress_entries r w.number 0 w.task.kept))
      × (y.woke ≡ x.woke ++ handed mid) × (has_given y ≡ gave_since (has_given x) mid)

-- the task rests, and the code's step stands for the page's
abbrev pub Rests : {W : Type 0} → (W → ℕ) → Own → Step W ⊤ → Type 0
Rests whose v s = (is_resting s ≡ true) × StandsOn whose v s

-- the entry of a call of t that ends so: a value and an error are named 0
abbrev pub end_of : ℕ → Ending → Entry
end_of t EndPending = End t Pending
end_of t EndValue = End t (Value 0)
end_of t EndError = End t (Error 0)
end_of t EndMemory = End t Memory
end_of t EndFull = End t Full
end_of t EndDropped = DropEnd t
