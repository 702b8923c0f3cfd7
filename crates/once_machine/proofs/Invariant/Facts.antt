-- What stands for a task in the history and in what all tasks share, by the step at which it is.
use Rattle.std.proofs.Common.{◌≡◌, ◌≤◌, ℕ, Bool, true, false, ◌⊎◌, List, Option, Some, None}
use Rattle.once_machine.specs.Numbers.{member}
use Rattle.once_machine.specs.Record.{Answer, Entry, Kind, RanError, RanPending, RanValue}
use Rattle.once_machine.specs.Cell.{SetTo, cell, is_set}
use Rattle.once_machine.specs.Tasks.{Dropping, Fresh, Gone, Holding, Polling, Status, Waiting, last_call, status}
use Rattle.once_machine.specs.Listings.{find_listing}
use Rattle.once_machine.specs.Refusals.{MemoryFrom}
use Rattle.once_machine.specs.Wakers.{handed_since}
use Rattle.once_machine.specs.Machine.{AtAddOne, AtCountIn, AtCountOut, AtDoorAgain, AtDoorGet, AtDoorPut, AtDoorTake, AtFast, AtList, AtLook, AtPut}
use Rattle.once_machine.specs.Machine.{AtLeave, AtRelease, AtRun, AtStart, AtTryQuick, AtWaitLoad, EndDropped, EndError, EndMemory, EndValue, Ending}
use Rattle.once_machine.specs.Machine.{Finished, SharedState, Place, Rest, RestRun, RestStart, RestWait, Resting, Step, UnderWay, place_of_poll}
use Rattle.once_machine.proofs.History.Others.{Met, MetHolder, SomeoneWaits, holds}

-- what is kept of the last answer of an init
abbrev pub kept_of : Option Answer → Answer
kept_of (Some a) = a
kept_of None = RanPending

-- t is in a poll in which the init answered so
pub record InPoll (K : Kind) (t : ℕ) (h : List Entry) (answer : Option Answer) (holder : Bool) : Type 0 where
  pub status_is : status K t h ≡ Polling
  pub ran_is : (last_call K t h).ran ≡ answer
  pub holds_is : holds t (cell K h) ≡ holder
  pub unpassed : (last_call K t h).passed ≡ false

-- t has this status, and holds or not
pub record InStatus (K : Kind) (t : ℕ) (h : List Entry) (s : Status) (holder : Bool) : Type 0 where
  pub status_is : status K t h ≡ s
  pub holds_is : holds t (cell K h) ≡ holder

-- the init of t gave nothing that is kept
abbrev pub GaveNothing : Kind → ℕ → List Entry → Type 0
GaveNothing K t h = kept_of (last_call K t h).ran ≡ RanPending

-- t is in a poll that has not claimed
pub record Entered (K : Kind) (t : ℕ) (h : List Entry) : Type 0 where
  pub poll : InPoll K t h None false
  pub unclaimed : (last_call K t h).claimed ≡ false

-- t is in a poll that has not claimed, and may have passed its turn on
pub record RefusedIn (K : Kind) (t : ℕ) (h : List Entry) : Type 0 where
  pub status_is : status K t h ≡ Polling
  pub ran_is : (last_call K t h).ran ≡ None
  pub holds_is : holds t (cell K h) ≡ false
  pub unclaimed : (last_call K t h).claimed ≡ false

pub refused_in : (K : Kind) (t : ℕ) (h : List Entry) → Entered K t h → RefusedIn K t h
refused_in K t h e = record { status_is = e.poll.status_is; ran_is = e.poll.ran_is; holds_is = e.poll.holds_is; unclaimed = e.unclaimed }

-- t is in its first poll, and the cell was not set as it began
pub record FreshIn (K : Kind) (t : ℕ) (h : List Entry) : Type 0 where
  pub entered : Entered K t h
  pub began_is : (last_call K t h).began ≡ Fresh
  pub unset : (last_call K t h).set_then ≡ false

-- t is in a poll that began fresh or waiting
pub record AnyIn (K : Kind) (t : ℕ) (h : List Entry) : Type 0 where
  pub entered : Entered K t h
  pub from : (((last_call K t h).began ≡ Fresh) × ((last_call K t h).set_then ≡ false)) ⊎ ((last_call K t h).began ≡ Waiting)

-- the flags while a task holds by the quick claim, and while one holds under the lock
pub record QuickFlag (c : SharedState) : Type 0 where
  pub quick_is : c.quick ≡ true
  pub head_is : c.head ≡ false

-- the same while one holds under the lock
pub record HeadFlag (c : SharedState) : Type 0 where
  pub quick_is : c.quick ≡ false
  pub head_is : c.head ≡ true

-- how a holder holds: by the quick claim, or under the lock of a queue
abbrev pub HoldsBy : ℕ → SharedState → Option ℕ → Type 0
HoldsBy limit c None = QuickFlag c × (c.count ≤ limit)
HoldsBy limit c (Some q) = HeadFlag c × (c.door ≡ Some q)

-- what stands in a call that will end so: its last entry is legal
abbrev pub Owes : Kind → ℕ → List Entry → Ending → Type 0
Owes K t h EndValue = (status K t h ≡ Polling) × ((v : ℕ) × (cell K h ≡ SetTo v) × (((last_call K t h).ran ≡ None) ⊎ ((last_call K t h).ran ≡ Some (RanValue v)))) × ((last_call K t h).passed ≡ false)
Owes K t h EndError = (e : ℕ) × InPoll K t h (Some (RanError e)) false × ((last_call K t h).freed ≡ true)
Owes K t h EndMemory = RefusedIn K t h × MemoryFrom K (last_call K t h).began t h
Owes K t h EndDropped = InStatus K t h Dropping false
Owes K t h _ = ⊥

-- what stands in the call of a holder that gives the right back, with the value put or without
abbrev pub Releasing : Kind → ℕ → List Entry → SharedState → Ending → Type 0
Releasing K t h c EndValue = (v : ℕ) × InPoll K t h (Some (RanValue v)) true × (c.value ≡ v)
Releasing K t h c EndError = (e : ℕ) × InPoll K t h (Some (RanError e)) true
Releasing K t h c EndDropped = InStatus K t h Dropping true × GaveNothing K t h
Releasing K t h c _ = ⊥

-- a queue stands at the door
abbrev pub IsSomeDoor : SharedState → Type 0
IsSomeDoor c = (q : ℕ) × (c.door ≡ Some q)

-- the listing of t with the ticket n, unless the value is set: it has the waker of t's last poll that ended Pending, or it was woken, and that waker was handed out since
abbrev pub IsListed : Kind → ℕ → SharedState → List Entry → ℕ → Type 0
IsListed K t c h n =
    c.ready ≡ false → (find_listing n c.listings ≡ Some (Some (last_call K t h).listed)) ⊎
    ((find_listing n c.listings ≡ Some None) × (member (last_call K t h).listed (handed_since t h) ≡ true))

-- what stands for the ticket of a task in a poll: it has one only if it began the poll waiting
abbrev pub HasTicket : Kind → ℕ → SharedState → List Entry → Option ℕ → Type 0
HasTicket K t c h None = Unit {0}
HasTicket K t c h (Some n) = ((last_call K t h).began ≡ Waiting) × IsListed K t c h n

-- of a task that waits: it has one
abbrev pub RestsOn : Kind → ℕ → SharedState → List Entry → Option ℕ → Type 0
RestsOn K t c h None = ⊥
RestsOn K t c h (Some n) = ((last_call K t h).listed ≡ (last_call K t h).waker) × IsListed K t c h n

-- what stands in a call that leaves, and will end so
abbrev pub MayLeave : Kind → ℕ → List Entry → Ending → Type 0
MayLeave K t h EndMemory = Entered K t h × MemoryFrom K (last_call K t h).began t h
MayLeave K t h EndDropped = InStatus K t h Dropping false × ((last_call K t h).claimed ≡ false) × ((last_call K t h).passed ≡ false)
MayLeave K t h _ = ⊥

-- what stands for a task at rest
abbrev pub AtRest : Kind → ℕ → ℕ → SharedState → List Entry → Rest ℕ → Type 0
AtRest K limit t c h RestStart = InStatus K t h Fresh false
AtRest K limit t c h (RestWait q k) = InStatus K t h Waiting false × (c.door ≡ Some q) × RestsOn K t c h k
AtRest K limit t c h (RestRun by) = InStatus K t h Holding true × HoldsBy limit c by

-- what stands for a task whose call is under way
abbrev pub AtPlace : Kind → ℕ → ℕ → SharedState → List Entry → Place ℕ ℕ → Type 0
AtPlace K limit t c h AtStart = Entered K t h × ((last_call K t h).began ≡ Fresh) × ((last_call K t h).set_then ≡ true → is_set (cell K h) ≡ true)
AtPlace K limit t c h AtTryQuick = FreshIn K t h × ((is_set (cell K h) ≡ false) ⊎ Met K t h)
AtPlace K limit t c h AtDoorGet = FreshIn K t h × (Met K t h ⊎ SomeoneWaits K h)
AtPlace K limit t c h AtDoorPut = FreshIn K t h × Met K t h
AtPlace K limit t c h (AtCountIn q) = FreshIn K t h × ((c.door ≡ Some q) ⊎ (c.ready ≡ true))
AtPlace K limit t c h (AtWaitLoad q k) = AnyIn K t h × (c.door ≡ Some q) × HasTicket K t c h k
AtPlace K limit t c h (AtLook q k) = AnyIn K t h × (c.door ≡ Some q) × HasTicket K t c h k
AtPlace K limit t c h (AtList q k w) = AnyIn K t h × (c.door ≡ Some q) × HasTicket K t c h k × MetHolder K t h × ((last_call K t h).waker ≡ w)
AtPlace K limit t c h (AtRun by) = InPoll K t h None true × HoldsBy limit c by
AtPlace K limit t c h (AtPut by) = (v : ℕ) × InPoll K t h (Some (RanValue v)) true × HoldsBy limit c by
AtPlace K limit t c h (AtFast e) = Releasing K t h c e × QuickFlag c × (c.count ≤ limit)
AtPlace K limit t c h (AtAddOne e) = Releasing K t h c e × QuickFlag c × (c.count ≤ limit) × IsSomeDoor c
AtPlace K limit t c h (AtDoorAgain e) = Releasing K t h c e × QuickFlag c × IsSomeDoor c
AtPlace K limit t c h (AtRelease q e) = Releasing K t h c e × (QuickFlag c ⊎ HeadFlag c) × (c.door ≡ Some q)
AtPlace K limit t c h (AtLeave q n e) = MayLeave K t h e × (c.door ≡ Some q) × ((last_call K t h).began ≡ Waiting) × IsListed K t c h n
AtPlace K limit t c h (AtCountOut e) = Owes K t h e
AtPlace K limit t c h (AtDoorTake e) = Owes K t h e × (c.ready ≡ true)

-- what stands for a task at its step
abbrev pub AtStep : Kind → ℕ → ℕ → SharedState → List Entry → Step ℕ ℕ → Type 0
AtStep K limit t c h (Resting r) = AtRest K limit t c h r × GaveNothing K t h
AtStep K limit t c h (UnderWay p) = AtPlace K limit t c h p
AtStep K limit t c h Finished = InStatus K t h Gone false

-- whether a task at this place stands in the count
abbrev pub is_counted_at : Place ℕ ℕ → Bool
is_counted_at (AtWaitLoad q k) = true
is_counted_at (AtLook q k) = true
is_counted_at (AtList q k w) = true
is_counted_at (AtRun (Some q)) = true
is_counted_at (AtPut (Some q)) = true
is_counted_at (AtDoorAgain e) = true
is_counted_at (AtRelease q e) = true
is_counted_at (AtLeave q n e) = true
is_counted_at (AtCountOut e) = true
is_counted_at _ = false

-- a task at rest is where its next poll goes on
abbrev pub is_counted : Step ℕ ℕ → Bool
is_counted (Resting r) = is_counted_at (place_of_poll r)
is_counted (UnderWay p) = is_counted_at p
is_counted Finished = false

-- whether it is a waiter, whose queue is the one at the door
abbrev pub is_inside_at : Place ℕ ℕ → Bool
is_inside_at (AtWaitLoad q k) = true
is_inside_at (AtLook q k) = true
is_inside_at (AtList q k w) = true
is_inside_at (AtLeave q n e) = true
is_inside_at _ = false

-- the same of a step
abbrev pub is_inside : Step ℕ ℕ → Bool
is_inside (Resting r) = is_inside_at (place_of_poll r)
is_inside (UnderWay p) = is_inside_at p
is_inside Finished = false

-- whether it is about to take the queue out of the door
abbrev pub is_take_at : Place ℕ ℕ → Bool
is_take_at (AtDoorTake e) = true
is_take_at _ = false

-- the same of a step
abbrev pub is_take : Step ℕ ℕ → Bool
is_take (UnderWay p) = is_take_at p
is_take _ = false

-- the ticket of a task at this place
abbrev pub ticket_at : Place ℕ ℕ → Option ℕ
ticket_at (AtWaitLoad q k) = k
ticket_at (AtLook q k) = k
ticket_at (AtList q k w) = k
ticket_at (AtLeave q n e) = Some n
ticket_at _ = None

-- the same of a step
abbrev pub ticket_of : Step ℕ ℕ → Option ℕ
ticket_of (Resting r) = ticket_at (place_of_poll r)
ticket_of (UnderWay p) = ticket_at p
ticket_of Finished = None
