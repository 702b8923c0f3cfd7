-- The table of places: the call that each place makes, what that call may tell, and how the poll or drop then goes on.
use Rattle.std.specs.Prelude.{◌≡◌, ℕ, Bool, true, false, Option, Some, None}
use Rattle.once_machine.specs.declared.parts.Counted.{Counted}
use Rattle.once_machine.specs.declared.parts.Counted.TheVariants.{In, Full, SeenReady}
use Rattle.once_machine.specs.declared.waiters.Op.{Op}
use Rattle.once_machine.specs.declared.waiters.Op.TheVariants.{Look as LookOp, List as ListOp}
use Rattle.once_machine.specs.declared.waiters.Op.TheVariants.{Release as ReleaseOp, Leave as LeaveOp}
use Rattle.once_machine.specs.declared.waiters.Answer.{Answer as SectionAnswer}
use Rattle.once_machine.specs.declared.waiters.Answer.TheVariants.{Ready, Claimed, Listed, Memory as NoMemory}
use Rattle.once_machine.specs.Ops.{ticket_in}
use Rattle.once_machine.specs.Word.{Flags, flags_of, is_zero, is_ready_bit}
use Rattle.once_machine.specs.declared.step.Polled.{Polled}
use Rattle.once_machine.specs.declared.step.Polled.TheVariants.{Pending as PolledPending, Value as PolledValue}
use Rattle.once_machine.specs.declared.step.Polled.TheVariants.{Error as PolledError}
use Rattle.once_machine.specs.Steps.{Ending, EndPending, EndValue, EndError, EndMemory, EndFull, is_value}
use Rattle.once_machine.specs.Steps.{Progress, More, Ended, Step, Resting, UnderWay, Finished, Rest, RestWait, RestRun}
use Rattle.once_machine.specs.Steps.{Place, AtStart, AtTryQuick, AtDoorGet, AtDoorPut, AtCountIn, AtWaitLoad, AtLook}
use Rattle.once_machine.specs.Steps.{AtList, AtRun, AtPut, AtFast, AtAddOne, AtDoorAgain, AtRelease, AtLeave}
use Rattle.once_machine.specs.Steps.{AtCountOut, AtDoorTake}
use Rattle.once_machine.specs.Steps.{MayClose, SideTells, Wakes, leave_place, out_of, release_place}

-- a call of the parts
pub data Call (W Q : Type 0) : Type 0 where
  -- load the word
  Load : Call W Q
  -- claim the right by one exchange
  Quick : Call W Q
  -- give the right back by one exchange, with the value set or not
  Fast : (fills : Bool) → Call W Q
  -- count in, if there is room
  CountIn : Call W Q
  -- count a holder in, whether there is room or not
  AddOne : Call W Q
  -- count out
  CountOut : Call W Q
  -- look for the queue at the door
  DoorGet : Call W Q
  -- put a queue to the door
  DoorPut : Call W Q
  -- take the queue out of the door
  DoorTake : Call W Q
  -- do this under the lock of this queue
  Section : (queue : Q) → (op : Op W) → Call W Q
  -- say that no waker was had to list
  Refuse : Call W Q
  -- have the side poll its init
  Run : Call W Q
  -- set the value that the init gave
  Put : Call W Q

-- a call, and what it told
pub data Told (W Q : Type 0) : Type 0 where
  -- the word
  Loaded : (word : Flags) → Told W Q
  -- whether the right was claimed
  TriedQuick : (won : Bool) → Told W Q
  -- whether the right was given back
  TriedFast : (fills : Bool) → (won : Bool) → Told W Q
  -- whether the caller was counted, and whether the value is set
  CountedIn : (is_in : Bool) → (ready : Bool) → Told W Q
  -- the holder was counted
  Added : Told W Q
  -- the word after the caller was counted out
  CountedOut : (word : Flags) → Told W Q
  -- the queue that stands at the door
  Got : (door : Option Q) → Told W Q
  -- the queue that was put or found there, or None if memory was refused
  PutQueue : (door : Option Q) → Told W Q
  -- whether a queue stood at the door
  Taken : (stood : Bool) → Told W Q
  -- what the section answered, and what it left of its operation
  Was : (queue : Q) → (op : Op W) → (answer : SectionAnswer W) → (left : Op W) → Told W Q
  -- it was said that no waker was had
  Refused : Told W Q
  -- what the init answered
  Ran : (answer : Polled) → Told W Q
  -- the value was set
  PutValue : Told W Q

-- some answer of the call, of which this holds
abbrev pub Tells : {W Q : Type 0} → Call W Q → (Told W Q → Type 0) → Type 0
Tells Load T = (w : Flags) × T (Loaded w)
Tells Quick T = (won : Bool) × T (TriedQuick won)
Tells (Fast fills) T = (won : Bool) × T (TriedFast fills won)
Tells CountIn T = (is_in : Bool) × (ready : Bool) × T (CountedIn is_in ready)
Tells AddOne T = T Added
Tells CountOut T = (w : Flags) × T (CountedOut w)
Tells {Q = Q} DoorGet T = (q : Option Q) × T (Got q)
Tells {Q = Q} DoorPut T = (q : Option Q) × T (PutQueue q)
Tells DoorTake T = (stood : Bool) × T (Taken stood)
Tells {W = W} (Section q op) T = (a : SectionAnswer W) × (o : Op W) × T (Was q op a o)
Tells Refuse T = T Refused
Tells Run T = (a : Polled) × T (Ran a)
Tells Put T = T PutValue

-- whether the caller was counted
abbrev pub is_in : Counted → Bool
is_in (In w) = true
is_in _ = false

-- whether the value was set then
abbrev pub finds_ready : Counted → Bool
finds_ready (In w) = (flags_of w).ready
finds_ready Full = false
finds_ready SeenReady = true

-- what counting in tells, by its answer
abbrev pub counted : {W Q : Type 0} → Counted → Told W Q
counted c = CountedIn (is_in c) (finds_ready c)

-- what follows a call
pub record Next (W Q : Type 0) : Type 0 where
  pub closes : Bool  -- whether the init is closed
  pub progress : Progress
  pub step : Step W Q

module _ {W Q : Type 0} where
  -- the poll or drop goes on at the place
  abbrev pub next_at : Place W Q → Next W Q
  next_at p = record { closes = false; progress = More; step = UnderWay p }

  -- the same, after the init was closed
  abbrev pub closing_at : Place W Q → Next W Q
  closing_at p = record { closes = true; progress = More; step = UnderWay p }

  -- the poll or drop ends, and the task is finished
  abbrev pub next_end : Ending → Next W Q
  next_end e = record { closes = false; progress = Ended e; step = Finished }

  -- the same, after the init was closed
  abbrev pub closing_end : Ending → Next W Q
  closing_end e = record { closes = true; progress = Ended e; step = Finished }

  -- the poll ends Pending
  abbrev pub next_rest : Rest Q → Next W Q
  next_rest r = record { closes = false; progress = Ended EndPending; step = Resting r }

  -- how many steps a poll or drop at this place may still take
  abbrev pub left_at : Place W Q → ℕ
  left_at AtStart = 16
  left_at AtTryQuick = 15
  left_at AtDoorGet = 14
  left_at AtDoorPut = 13
  left_at (AtCountIn q) = 12
  left_at (AtWaitLoad q k) = 11
  left_at (AtLook q k) = 10
  left_at (AtList q k w) = 9
  left_at (AtRun by) = 8
  left_at (AtPut by) = 7
  left_at (AtFast e) = 6
  left_at (AtAddOne e) = 5
  left_at (AtDoorAgain e) = 4
  left_at (AtRelease q e) = 3
  left_at (AtLeave q n e) = 3
  left_at (AtCountOut e) = 2
  left_at (AtDoorTake e) = 1

  -- how many steps the poll or drop may still take; 0 if none is under way
  abbrev pub left_of : Step W Q → ℕ
  left_of (UnderWay p) = left_at p
  left_of _ = 0

  -- the call of a place
  abbrev pub call_at : Place W Q → Call W Q
  call_at AtStart = Load
  call_at AtTryQuick = Quick
  call_at AtDoorGet = DoorGet
  call_at AtDoorPut = DoorPut
  call_at (AtCountIn q) = CountIn
  call_at (AtWaitLoad q k) = Load
  call_at (AtLook q k) = Section q (LookOp k)
  call_at (AtList q k w) = Section q (ListOp k (Some w))
  call_at (AtRun by) = Run
  call_at (AtPut by) = Put
  call_at (AtFast e) = Fast (is_value e)
  call_at (AtAddOne e) = AddOne
  call_at (AtDoorAgain e) = DoorGet
  call_at (AtRelease q e) = Section q (ReleaseOp (is_value e))
  call_at (AtLeave q n e) = Section q (LeaveOp n)
  call_at (AtCountOut e) = CountOut
  call_at (AtDoorTake e) = DoorTake

  -- after the first load: whether the word is ready, and whether it is NEW
  abbrev pub after_start : Bool → Bool → Next W Q
  after_start true _ = closing_end EndValue
  after_start false true = next_at AtTryQuick
  after_start false false = next_at AtDoorGet

  -- after a quick claim, by whether it was won
  abbrev pub after_quick : Bool → Next W Q
  after_quick true = next_at (AtRun None)
  after_quick false = next_at AtDoorGet

  -- after the look at the door
  abbrev pub after_door_get : Option Q → Next W Q
  after_door_get (Some q) = next_at (AtCountIn q)
  after_door_get None = next_at AtDoorPut

  -- after a queue was put or found; None if memory was refused
  abbrev pub after_door_put : Option Q → Next W Q
  after_door_put (Some q) = next_at (AtCountIn q)
  after_door_put None = closing_end EndMemory

  -- after counting in: whether the task was counted, and whether the value is set
  abbrev pub after_count_in : Bool → Bool → Q → Next W Q
  after_count_in true true q = closing_at (AtCountOut EndValue)
  after_count_in true false q = next_at (AtWaitLoad q None)
  after_count_in false true q = closing_end EndValue
  after_count_in false false q = closing_end EndFull

  -- after a waiter's load: whether the word is ready
  abbrev pub after_load : Bool → Q → Option ℕ → Next W Q
  after_load true q k = closing_at (AtCountOut EndValue)
  after_load false q k = next_at (AtLook q k)

  -- after the copy of the waker; None if memory was refused
  abbrev pub after_copy : Option W → Q → Option ℕ → Next W Q
  after_copy (Some w) q k = next_at (AtList q k w)
  after_copy None q k = closing_at (leave_place q k EndMemory)

  -- after a look with this ticket; w is the copy of the waker, if one was made
  abbrev pub after_look : SectionAnswer W → Option W → Q → Option ℕ → Next W Q
  after_look Ready w q k = closing_at (AtCountOut EndValue)
  after_look Claimed w q k = next_at (AtRun (Some q))
  after_look Listed w q k = next_rest (RestWait q k)
  after_look _ w q k = after_copy w q k

  -- after a List, with the ticket that the section left
  abbrev pub after_list : SectionAnswer W → Q → Option ℕ → Next W Q
  after_list Ready q k = closing_at (AtCountOut EndValue)
  after_list Claimed q k = next_at (AtRun (Some q))
  after_list NoMemory q k = closing_at (leave_place q k EndMemory)
  after_list _ q k = next_rest (RestWait q k)

  -- after the init was polled
  abbrev pub after_run : Polled → Option Q → Next W Q
  after_run PolledPending by = next_rest (RestRun by)
  after_run PolledValue by = closing_at (AtPut by)
  after_run PolledError by = closing_at (release_place by EndError)

  -- after a fast release: whether it was done, and whether it sets the value
  abbrev pub after_fast : Bool → Bool → Ending → Next W Q
  after_fast true true e = next_at (AtDoorTake e)
  after_fast true false e = next_end e
  after_fast false fills e = next_at (AtAddOne e)

  -- after a holder looked for the queue of the counted tasks
  abbrev pub after_door_again : Option Q → Ending → Next W Q
  after_door_again (Some q) e = next_at (AtRelease q e)
  after_door_again None e = next_at (AtCountOut e)

  -- after counting out: whether the word is exactly the ready bit
  abbrev pub after_count_out : Bool → Ending → Next W Q
  after_count_out true e = next_at (AtDoorTake e)
  after_count_out false e = next_end e

  -- what follows at a place, if this was told. A look that finds a holder has the waker copied; c is the copy, or None
  -- if memory was refused. If what was told is of no call of the place, the task stays there
  abbrev pub after : Option W → Place W Q → Told W Q → Next W Q
  after c AtStart (Loaded w) = after_start w.ready (is_zero w)
  after c AtTryQuick (TriedQuick won) = after_quick won
  after c AtDoorGet (Got q) = after_door_get q
  after c AtDoorPut (PutQueue q) = after_door_put q
  after c (AtCountIn q) (CountedIn is_in ready) = after_count_in is_in ready q
  after c (AtWaitLoad q k) (Loaded w) = after_load w.ready q k
  after c (AtLook q k) (Was p op a o) = after_look a c q (ticket_in o)
  after c (AtList q k w) (Was p op a o) = after_list a q (ticket_in o)
  after c (AtList q k w) Refused = closing_at (leave_place q k EndMemory)
  after c (AtRun by) (Ran a) = after_run a by
  after c (AtPut by) PutValue = next_at (release_place by EndValue)
  after c (AtFast e) (TriedFast fills won) = after_fast won (is_value e) e
  after c (AtAddOne e) Added = next_at (AtDoorAgain e)
  after c (AtDoorAgain e) (Got q) = after_door_again q e
  after c (AtRelease q e) (Was p op a o) = next_at (AtCountOut e)
  after c (AtLeave q n e) (Was p op a o) = next_at (AtCountOut e)
  after c (AtCountOut e) (CountedOut w) = after_count_out (is_ready_bit w) e
  after c (AtDoorTake e) (Taken stood) = next_end e
  after c p _ = next_at p

module _ {S W Q : Type 0} (close : S → S → Type 0) where
  -- what follows happened
  abbrev pub Follows : Next W Q → S → S → Progress → Step W Q → Type 0
  Follows n s s' r t = MayClose close n.closes s s' × (r ≡ n.progress) × (t ≡ n.step)

module _ {S W Q : Type 0} (side : SideTells S W) where
  -- what the side did in a step that was told this, by whether its init is closed in what follows
  abbrev pub SideDid : Told W Q → Bool → S → S → Type 0
  SideDid (Ran a) b s s' = (m : S) × side.run s a m × MayClose side.close b m s'
  SideDid PutValue b s s' = side.put s s'
  SideDid (Was q (ReleaseOp fills) a o) b s s' = Wakes side.wake (out_of a) s s'
  SideDid (Was q (LeaveOp n) a o) b s s' = Wakes side.wake (out_of a) s s'
  SideDid _ b s s' = MayClose side.close b s s'

-- after a look, whether the waker is to be copied: another task holds, and it is not listed
abbrev pub wants_copy : {W : Type 0} → Op W → SectionAnswer W → Bool
wants_copy (LookOp k) Ready = false
wants_copy (LookOp k) Claimed = false
wants_copy (LookOp k) Listed = false
wants_copy (LookOp k) a = true
wants_copy op a = false

-- a copy was had, and all is as it was; or else a refusal was told
abbrev pub MayRefuse : {P W : Type 0} → (P → P → Type 0) → Option W → P → P → Type 0
MayRefuse refuse None p p' = refuse p p'
MayRefuse refuse (Some w) p p' = p' ≡ p

module _ {P S W Q : Type 0} (did : P → Told W Q → P → Type 0) (side : SideTells S W) where
  -- the side did its part, and this follows
  abbrev pub GoesOn : Next W Q → Told W Q → S → S → Progress → Step W Q → Type 0
  GoesOn n e s s' r t = SideDid side e n.closes s s' × (r ≡ n.progress) × (t ≡ n.step)

  -- after a look that left the parts n, by whether it wants a copy of the waker
  abbrev pub Looked : Bool → Place W Q → Told W Q → P → S → Progress → Step W Q → P → S → Type 0
  Looked false at e n s r t p' s' = (p' ≡ n) × GoesOn (after None at e) e s s' r t
  Looked true at e n s r t p' s' =
      (c : Option W) × (m : S) × side.copy s c m × MayRefuse (λ p p'. did p Refused p') c n p'
      × GoesOn (after c at e) e m s' r t

  -- one line of the table: the place, parts and side before, the progress, and the step, parts and side after. The
  -- call of the place told something, and the task goes on so
  abbrev pub Line : Place W Q → P → S → Progress → Step W Q → P → S → Type 0
  Line (AtLook q k) p s r t p' s' =
      (a : SectionAnswer W) × (o : Op W) × (n : P) × did p (Was q (LookOp k) a o) n
      × Looked (wants_copy (LookOp k) a) (AtLook q k) (Was q (LookOp k) a o) n s r t p' s'
  Line at p s r t p' s' = Tells (call_at at) (λ e. did p e p' × GoesOn (after None at e) e s s' r t)

  -- one step of a poll or drop under way is its line of the table
  abbrev pub Advances : Step W Q → P → S → Progress → Step W Q → P → S → Type 0
  Advances (UnderWay at) p s r t p' s' = Line at p s r t p' s'
  Advances _ p s r t p' s' = ⊥

module _ {P S W Q : Type 0} (can : P → Call W Q → Type 0) (can_run can_put : S → Type 0) where
  -- what a call of the parts asks of the side
  abbrev pub SideCan : Call W Q → S → Type 0
  SideCan Run s = can_run s
  SideCan Put s = can_put s
  SideCan _ s = Unit {0}

  -- what the call of a place asks of the parts and of the side
  abbrev pub AsksAt : Place W Q → P → S → Type 0
  AsksAt at p s = can p (call_at at) × SideCan (call_at at) s

  -- the same of a step: one that is not under way asks nothing
  abbrev pub Asks : Step W Q → P → S → Type 0
  Asks (UnderWay at) p s = AsksAt at p s
  Asks _ p s = Unit {0}
