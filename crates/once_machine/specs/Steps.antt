-- Where a task stands: at rest, at a place of a call, or finished. What each place does stands in Table.
use Rattle.std.specs.Prelude.{◌≡◌, ℕ, Bool, true, false, Option, Some, None}
use Rattle.once_machine.specs.declared.waiters.Answer.{Answer as SectionAnswer}
use Rattle.once_machine.specs.declared.waiters.Answer.TheVariants.{Released, Left}
use Rattle.once_machine.specs.declared.step.Out.{Out}
use Rattle.once_machine.specs.declared.step.Out.TheVariants.{One}
use Rattle.once_machine.specs.declared.step.Polled.{Polled}
pub use Rattle.once_machine.specs.declared.step.Ending.{Ending}
pub use Rattle.once_machine.specs.declared.step.Ending.TheVariants.{Pending as EndPending, Value as EndValue}
pub use Rattle.once_machine.specs.declared.step.Ending.TheVariants.{Error as EndError}
pub use Rattle.once_machine.specs.declared.step.Ending.TheVariants.{Memory as EndMemory, Full as EndFull}
pub use Rattle.once_machine.specs.declared.step.Ending.TheVariants.{Dropped as EndDropped}
pub use Rattle.once_machine.specs.declared.step.Progress.{Progress}
pub use Rattle.once_machine.specs.declared.step.Progress.TheVariants.{More, Ended}
pub use Rattle.once_machine.specs.declared.step.Rest.{Rest}
pub use Rattle.once_machine.specs.declared.step.Rest.TheVariants.{Start as RestStart, Wait as RestWait}
pub use Rattle.once_machine.specs.declared.step.Rest.TheVariants.{Run as RestRun}
pub use Rattle.once_machine.specs.declared.step.Place.{Place}
pub use Rattle.once_machine.specs.declared.step.Place.TheVariants.{Start as AtStart, TryQuick as AtTryQuick}
pub use Rattle.once_machine.specs.declared.step.Place.TheVariants.{DoorGet as AtDoorGet, DoorPut as AtDoorPut}
pub use Rattle.once_machine.specs.declared.step.Place.TheVariants.{CountIn as AtCountIn, WaitLoad as AtWaitLoad}
pub use Rattle.once_machine.specs.declared.step.Place.TheVariants.{Look as AtLook, List as AtList}
pub use Rattle.once_machine.specs.declared.step.Place.TheVariants.{Run as AtRun, Put as AtPut}
pub use Rattle.once_machine.specs.declared.step.Place.TheVariants.{Fast as AtFast, AddOne as AtAddOne}
pub use Rattle.once_machine.specs.declared.step.Place.TheVariants.{DoorAgain as AtDoorAgain, Release as AtRelease}
pub use Rattle.once_machine.specs.declared.step.Place.TheVariants.{Leave as AtLeave, CountOut as AtCountOut}
pub use Rattle.once_machine.specs.declared.step.Place.TheVariants.{DoorTake as AtDoorTake}
pub use Rattle.once_machine.specs.declared.step.Step.{Step}
pub use Rattle.once_machine.specs.declared.step.Step.TheVariants.{Resting, UnderWay, Finished}

-- whether the call ends with the value: only then does its release set the ready bit
abbrev pub is_value : Ending → Bool
is_value EndValue = true
is_value _ = false

module _ {W Q : Type 0} where
  -- no call is under way, and the task is not finished
  abbrev pub is_resting : Step W Q → Bool
  is_resting (Resting r) = true
  is_resting _ = false

  -- a call is under way
  abbrev pub in_call : Step W Q → Bool
  in_call (UnderWay p) = true
  in_call _ = false

  -- the last call ended with anything but Pending
  abbrev pub is_finished : Step W Q → Bool
  is_finished Finished = true
  is_finished _ = false

  -- the next step polls the init
  abbrev pub is_running : Step W Q → Bool
  is_running (UnderWay (AtRun by)) = true
  is_running _ = false

  -- the next step takes the listing out
  abbrev pub is_leaving : Step W Q → Bool
  is_leaving (UnderWay (AtLeave q n e)) = true
  is_leaving _ = false

  -- the next step is the fast release
  abbrev pub is_freeing : Step W Q → Bool
  is_freeing (UnderWay (AtFast e)) = true
  is_freeing _ = false

  -- the next step counts a holder in, whose fast release was not done
  abbrev pub is_adding : Step W Q → Bool
  is_adding (UnderWay (AtAddOne e)) = true
  is_adding _ = false

  -- a poll goes on from the place at rest
  abbrev pub place_of_poll : Rest Q → Place W Q
  place_of_poll RestStart = AtStart
  place_of_poll (RestWait q k) = AtWaitLoad q k
  place_of_poll (RestRun by) = AtRun by

  -- the step with which a poll begins
  abbrev pub step_of_poll : Step W Q → Step W Q
  step_of_poll (Resting r) = UnderWay (place_of_poll r)
  step_of_poll s = s

  -- where a holder gives the right back: by the fast release if it claimed quickly, else under the lock of its queue
  abbrev pub release_place : Option Q → Ending → Place W Q
  release_place None e = AtFast e
  release_place (Some q) e = AtRelease q e

  -- where a waiter goes that is dropped or refused: it takes its listing out, if it has a ticket
  abbrev pub leave_place : Q → Option ℕ → Ending → Place W Q
  leave_place q None e = AtCountOut e
  leave_place q (Some n) e = AtLeave q n e

  -- a drop goes on from the place at rest; it is over if the task was never polled
  abbrev pub step_of_drop_at : Rest Q → Step W Q
  step_of_drop_at RestStart = Finished
  step_of_drop_at (RestWait q k) = UnderWay (leave_place q k EndDropped)
  step_of_drop_at (RestRun by) = UnderWay (release_place by EndDropped)

  -- the step with which a drop begins
  abbrev pub step_of_drop : Step W Q → Step W Q
  step_of_drop (Resting r) = step_of_drop_at r
  step_of_drop s = s

module _ {S : Type 0} (close : S → S → Type 0) where
  -- the init is closed or not; else the side is the same
  abbrev pub MayClose : Bool → S → S → Type 0
  MayClose true s s' = close s s'
  MayClose false s s' = s' ≡ s

-- what the section of a release, or of a waiter that leaves, hands out; any other answer hands nothing out
abbrev pub out_of : {W : Type 0} → SectionAnswer W → Option (Out W)
out_of (Released out) = Some out
out_of (Left w) = Some (One w)
out_of _ = None

-- the wakers that were handed out are woken; if nothing was handed out, nothing happens
abbrev pub Wakes : {S W : Type 0} → (S → Out W → S → Type 0) → Option (Out W) → S → S → Type 0
Wakes wake (Some out) s s' = wake s out s'
Wakes wake None s s' = s' ≡ s

-- what the calls of a side tell: the side before, what was given and answered, and the side after
pub record SideTells (S W : Type 0) : Type 1 where
  pub run : S → Polled → S → Type 0
  pub close : S → S → Type 0
  pub put : S → S → Type 0
  pub copy : S → Option W → S → Type 0
  pub wake : S → Out W → S → Type 0

-- nothing is told of a side
abbrev pub side_tells_nothing : {S W : Type 0} → SideTells S W
side_tells_nothing = record {
  run = λ _ _ _. Unit {0};
  close = λ _ _. Unit {0};
  put = λ _ _. Unit {0};
  copy = λ _ _ _. Unit {0};
  wake = λ _ _ _. Unit {0};
}
