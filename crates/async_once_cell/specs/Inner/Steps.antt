-- A step of a call, a call of the parts and what it told, as they look with other names for wakers and queues.
-- The code's wakers are objects, and those of a page are numbers.
use Rattle.std.specs.Prelude.{◌≡◌, ℕ, None}
use Rattle.std.specs.Option.{option_map}
use Rattle.once_machine.specs.declared.waiters.Answer.{Answer}
use Rattle.once_machine.specs.declared.waiters.Answer.TheVariants.{Ready, Claimed, Listed, Held, Memory, Gone}
use Rattle.once_machine.specs.declared.waiters.Answer.TheVariants.{Released, Left}
use Rattle.once_machine.specs.Ops.{ticket_in}
use Rattle.once_machine.specs.declared.waiters.Op.{Op}
use Rattle.once_machine.specs.declared.waiters.Op.TheVariants.{Look, List as ListOwn, Release, Leave}
use Rattle.once_machine.specs.Table.{Next}
use Rattle.once_machine.specs.Table.{Call, Load, Quick, Fast, CountIn, AddOne, CountOut, DoorGet, DoorPut, DoorTake}
use Rattle.once_machine.specs.Table.{Section, Refuse, Run, Put}
use Rattle.once_machine.specs.Table.{Told, Loaded, TriedQuick, TriedFast, CountedIn, Added, CountedOut, Got, PutQueue}
use Rattle.once_machine.specs.Table.{Taken, Was, Refused, Ran, PutValue}
use Rattle.once_machine.specs.declared.step.Rest.{Rest}
use Rattle.once_machine.specs.declared.step.Rest.TheVariants.{Start as RestStart, Wait as RestWait, Run as RestRun}
use Rattle.once_machine.specs.declared.step.Step.{Step}
use Rattle.once_machine.specs.declared.step.Step.TheVariants.{Resting, UnderWay, Finished}
use Rattle.once_machine.specs.declared.step.Place.{Place}
use Rattle.once_machine.specs.declared.step.Place.TheVariants.{Start as AtStart, TryQuick as AtTryQuick}
use Rattle.once_machine.specs.declared.step.Place.TheVariants.{DoorGet as AtDoorGet, DoorPut as AtDoorPut}
use Rattle.once_machine.specs.declared.step.Place.TheVariants.{CountIn as AtCountIn}
use Rattle.once_machine.specs.declared.step.Place.TheVariants.{WaitLoad as AtWaitLoad, Look as AtLook, List as AtList}
use Rattle.once_machine.specs.declared.step.Place.TheVariants.{Run as AtRun}
use Rattle.once_machine.specs.declared.step.Place.TheVariants.{Put as AtPut, Fast as AtFast, AddOne as AtAddOne}
use Rattle.once_machine.specs.declared.step.Place.TheVariants.{DoorAgain as AtDoorAgain, Release as AtRelease}
use Rattle.once_machine.specs.declared.step.Place.TheVariants.{Leave as AtLeave, CountOut as AtCountOut}
use Rattle.once_machine.specs.declared.step.Place.TheVariants.{DoorTake as AtDoorTake}

-- where a call begins
abbrev pub rest_as : {Q P : Type 0} → (Q → P) → Rest Q → Rest P
rest_as g RestStart = RestStart
rest_as g (RestWait q k) = RestWait (g q) k
rest_as g (RestRun by) = RestRun (option_map g by)

module _ {W V Q P : Type 0} (f : W → V) (g : Q → P) where
  -- the place of the next step
  abbrev pub place_as : Place W Q → Place V P
  place_as AtStart = AtStart
  place_as AtTryQuick = AtTryQuick
  place_as AtDoorGet = AtDoorGet
  place_as AtDoorPut = AtDoorPut
  place_as (AtCountIn q) = AtCountIn (g q)
  place_as (AtWaitLoad q k) = AtWaitLoad (g q) k
  place_as (AtLook q k) = AtLook (g q) k
  place_as (AtList q k w) = AtList (g q) k (f w)
  place_as (AtRun by) = AtRun (option_map g by)
  place_as (AtPut by) = AtPut (option_map g by)
  place_as (AtFast e) = AtFast e
  place_as (AtAddOne e) = AtAddOne e
  place_as (AtDoorAgain e) = AtDoorAgain e
  place_as (AtRelease q e) = AtRelease (g q) e
  place_as (AtLeave q n e) = AtLeave (g q) n e
  place_as (AtCountOut e) = AtCountOut e
  place_as (AtDoorTake e) = AtDoorTake e

  -- what a task is at
  abbrev pub step_as : Step W Q → Step V P
  step_as (Resting r) = Resting (rest_as g r)
  step_as (UnderWay p) = UnderWay (place_as p)
  step_as Finished = Finished

  -- what follows a call
  abbrev pub next_as : Next W Q → Next V P
  next_as n = record { closes = n.closes; progress = n.progress; step = step_as n.step }

-- the answer of a section, without the wakers that it hands out
abbrev pub answer_as : {W V : Type 0} → Answer W → Answer V
answer_as Ready = Ready
answer_as Claimed = Claimed
answer_as Listed = Listed
answer_as Held = Held
answer_as Memory = Memory
answer_as Gone = Gone
answer_as (Released out) = Left None
answer_as (Left next) = Left None

-- an operation of a section
abbrev pub op_as : {W V : Type 0} → (W → V) → Op W → Op V
op_as f (Look k) = Look k
op_as f (ListOwn k w) = ListOwn k (option_map f w)
op_as f (Release fills) = Release fills
op_as f (Leave k) = Leave k

-- what is left of it, of which the ticket alone is told
abbrev pub left_as : {W V : Type 0} → Op W → Op V
left_as o = Look (ticket_in o)

module _ {W V Q P : Type 0} (f : W → V) (g : Q → P) where
  -- a call
  abbrev pub call_as : Call W Q → Call V P
  call_as Load = Load
  call_as Quick = Quick
  call_as (Fast fills) = Fast fills
  call_as CountIn = CountIn
  call_as AddOne = AddOne
  call_as CountOut = CountOut
  call_as DoorGet = DoorGet
  call_as DoorPut = DoorPut
  call_as DoorTake = DoorTake
  call_as (Section q op) = Section (g q) (op_as f op)
  call_as Refuse = Refuse
  call_as Run = Run
  call_as Put = Put

  -- what it told
  abbrev pub told_as : Told W Q → Told V P
  told_as (Loaded word) = Loaded word
  told_as (TriedQuick won) = TriedQuick won
  told_as (TriedFast fills won) = TriedFast fills won
  told_as (CountedIn is_in ready) = CountedIn is_in ready
  told_as Added = Added
  told_as (CountedOut word) = CountedOut word
  told_as (Got q) = Got (option_map g q)
  told_as (PutQueue q) = PutQueue (option_map g q)
  told_as (Taken stood) = Taken stood
  told_as (Was q op a o) = Was (g q) (op_as f op) (answer_as a) (left_as o)
  told_as Refused = Refused
  told_as (Ran a) = Ran a
  told_as PutValue = PutValue

-- the step of the code stands for that of the page, by the task of each waker and by what is told of a queue
abbrev pub StandsForStep : {W Q C : Type 0} → (W → ℕ) → (Q → C) → (ℕ → C) → Step W Q → Step ℕ ℕ → Type 0
StandsForStep whose g h s t = step_as whose g s ≡ step_as (λ w. w) h t
