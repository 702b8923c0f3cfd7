-- The machine: what all tasks share, the place at which each task stands, and what each input does.
use Rattle.std.specs.Prelude.{◌≡◌, ℕ, suc, Bool, true, false, if◌then◌else◌, ◌==◌, ◌-◌, nat_lt, ◌||◌}
use Rattle.std.specs.Prelude.{List, [], ◌∷◌, ◌++◌, Option, Some, None}
use Rattle.std.specs.Option.{is_some, unwrap_or, option_to_list}
pub use Rattle.once_machine.specs.Steps.{Ending, EndPending, EndValue, EndError, EndMemory, EndFull, EndDropped}
pub use Rattle.once_machine.specs.Steps.{Rest, RestStart, RestWait, RestRun, Step, Resting, UnderWay, Finished}
pub use Rattle.once_machine.specs.Steps.{Place, AtStart, AtTryQuick, AtDoorGet, AtDoorPut}
pub use Rattle.once_machine.specs.Steps.{AtCountIn, AtWaitLoad, AtLook, AtList, AtRun}
pub use Rattle.once_machine.specs.Steps.{AtPut, AtFast, AtAddOne, AtDoorAgain}
pub use Rattle.once_machine.specs.Steps.{AtRelease, AtLeave, AtCountOut, AtDoorTake}
use Rattle.once_machine.specs.Steps.{Progress, More, Ended}
pub use Rattle.once_machine.specs.Steps.{is_value, is_resting, in_call, is_leaving, is_finished}
pub use Rattle.once_machine.specs.Table.{left_at, left_of}
pub use Rattle.once_machine.specs.Steps.{place_of_poll, step_of_poll, release_place}
pub use Rattle.once_machine.specs.Steps.{leave_place, step_of_drop_at, step_of_drop}
use Rattle.once_machine.specs.Table.{Next, Call, Load, Quick, Fast, CountIn, AddOne, CountOut, DoorGet, DoorPut}
use Rattle.once_machine.specs.Table.{DoorTake}
use Rattle.once_machine.specs.Table.{Section, Refuse, Run, Put, after, call_at}
use Rattle.once_machine.specs.Table.{Told, Loaded, TriedQuick, TriedFast, CountedIn, Added, CountedOut}
use Rattle.once_machine.specs.Table.{Got as Found, PutQueue, Taken as TakenOut, Was, Refused, Ran as Polls, PutValue}
use Rattle.once_machine.specs.declared.step.Polled.{Polled}
use Rattle.once_machine.specs.declared.step.Polled.TheVariants.{Pending as PolledPending, Value as PolledValue}
use Rattle.once_machine.specs.declared.step.Polled.TheVariants.{Error as PolledError}
use Rattle.once_machine.specs.declared.waiters.Op.TheVariants.{Look as LookOp, List as ListOp}
use Rattle.once_machine.specs.declared.waiters.Op.TheVariants.{Release as ReleaseOp, Leave as LeaveOp}
use Rattle.once_machine.specs.declared.waiters.Answer.{Answer as SectionAnswer}
use Rattle.once_machine.specs.declared.waiters.Answer.TheVariants.{Left, Gone}
use Rattle.once_machine.specs.declared.word.Sees.{Sees}
use Rattle.once_machine.specs.Word.{Flags, is_zero, is_quick_bit, sees, is_free}
pub use Rattle.once_machine.specs.UnderLock.{seen_by, look_answer, list_answer, is_claim, head_after}
pub use Rattle.once_machine.specs.UnderLock.{looked_list, looked_ticket, listed_list, listed_ticket, waker_left}
pub use Rattle.once_machine.specs.declared.task.Task.{Task}
pub use Rattle.once_machine.specs.declared.log.QueueLine.{QueueLine}
pub use Rattle.once_machine.specs.declared.log.QueueLine.TheVariants.{Put as PutLine, Entered as EnteredLine}
pub use Rattle.once_machine.specs.declared.log.QueueLine.TheVariants.{Taken as TakenLine}
pub use Rattle.once_machine.specs.declared.waiters.Listing.{Listing}
pub use Rattle.once_machine.specs.Listings.{own_listing, kept_ticket, ticket_for, list_with}
pub use Rattle.once_machine.specs.Listings.{list_without, passes_turn, next_waker}
pub use Rattle.once_machine.specs.Listings.{left_list, first_waker, call_first, all_out, is_waker}
use Rattle.once_machine.specs.Record.{Kind, is_lazy, has_call, replaces, OwnerCall}
use Rattle.once_machine.specs.Record.{Take, Write, Parts, ReplaceValue, ReplaceAnswers}
use Rattle.once_machine.specs.Record.{Got, GotNone, GotValue, GotAnswers, Answer, RanPending, RanValue, RanError}
use Rattle.once_machine.specs.Record.{Pending, Value, Error, Memory, Full, Entry, Made, Begin, Claim, Ran, Free, Fill}
use Rattle.once_machine.specs.Record.{Pass, End, DropBegin, DropEnd, Look, Own}
use Rattle.once_machine.specs.Cell.{is_set, value_in, first_cell, first_answers, rest_of, next_answer}
use Rattle.once_machine.specs.Inputs.{Input, Make, Poll, Drop, Go, Looks, Owns}
use Rattle.once_machine.specs.Log.{take_lines}

-- what is found at the door or put there, by whether memory is given and by what stands there
abbrev pub put_answer : Bool → Option ℕ → ℕ → Option ℕ
put_answer false door n = None
put_answer true (Some q) n = Some q
put_answer true None n = Some (suc n)

-- what all tasks share
pub record SharedState : Type 0 where
  pub count : ℕ  -- the count of the word
  pub quick : Bool  -- its quick flag
  pub ready : Bool  -- its ready flag
  pub door : Option ℕ  -- the queue at the door
  pub head : Bool  -- its flag
  pub listings : List (Listing ℕ)  -- its listings
  pub queues : ℕ  -- how many queues were made
  pub value : ℕ  -- the value put last
  pub answers : List (Option ℕ)  -- what a lazy init will still answer

-- the word as a count and two flags
abbrev pub word_of : SharedState → Flags
word_of c = record { count = c.count; quick = c.quick; ready = c.ready }

-- what the word and the flag beside the list say of the right
abbrev pub sees_of : SharedState → Sees
sees_of c = sees (word_of c) c.head

-- the queue q stands at the door
abbrev pub is_at_door : ℕ → Option ℕ → Bool
is_at_door q None = false
is_at_door q (Some d) = d == q

-- what one step of a task leaves
pub record Outcome : Type 0 where
  pub shared : SharedState
  pub step : Step ℕ ℕ  -- what the task is at
  pub kept : Answer  -- what its init gave
  pub entries : List Entry  -- what the step adds to the record, the newest entry first

-- the error that the init gave
abbrev pub error_in : Answer → ℕ
error_in (RanError e) = e
error_in _ = 0

-- the value once what the init gave is put
abbrev pub put_value : Answer → ℕ → ℕ
put_value (RanValue v) old = v
put_value _ old = old

-- the release of a task whose init gave this: a value fills the cell
abbrev pub release_entry : Answer → ℕ → List ℕ → Entry
release_entry (RanValue v) t X = Fill t v X
release_entry _ t X = Free t X

-- a task that leaves passes its turn on to these wakers, if there are some
abbrev pub pass_entries : ℕ → List ℕ → List Entry
pass_entries t [] = []
pass_entries t X = Pass t X ∷ []

-- how the poll or drop of t ends, if its init gave k and the value is v
abbrev pub end_entry : Ending → ℕ → ℕ → Answer → Entry
end_entry EndPending t v k = End t Pending
end_entry EndValue t v k = End t (Value v)
end_entry EndError t v k = End t (Error (error_in k))
end_entry EndMemory t v k = End t Memory
end_entry EndFull t v k = End t Full
end_entry EndDropped t v k = DropEnd t

-- the entry of a poll or drop that ends, with the value v set
abbrev pub progress_entries : Progress → ℕ → ℕ → Answer → List Entry
progress_entries (Ended e) t v k = end_entry e t v k ∷ []
progress_entries More t v k = []

-- a claim of t is recorded if there was one
abbrev pub claim_entries : Bool → ℕ → List Entry
claim_entries true t = Claim t ∷ []
claim_entries false t = []

-- the fast release hands no waker out
abbrev pub freed_entries : Bool → ℕ → Answer → List Entry
freed_entries true t k = release_entry k t [] ∷ []
freed_entries false t k = []

-- the outcome of a step of t: what it leaves, what its init gave, what it did, and what the table of places says of
-- the poll or drop
abbrev pub outcome_of : SharedState → ℕ → Answer → List Entry → Next ℕ ℕ → Outcome
outcome_of c t k did n = record {
  shared = c;
  step = n.step;
  kept = k;
  entries = progress_entries n.progress t c.value k ++ did;
}

-- what a quick claim leaves, by whether the word was NEW
abbrev pub quick_shared : Bool → SharedState → SharedState
quick_shared true c = record c { quick = true }
quick_shared false c = c

-- what a put of the queue leaves, by what stood at the door: one is put if none stood
abbrev pub put_shared : Option ℕ → Option ℕ → SharedState → SharedState
put_shared (Some q) None c = record c { door = Some q; head = false; listings = []; queues = suc c.queues }
put_shared _ _ c = c

-- what counting in leaves, by whether the count is below the limit
abbrev pub in_shared : Bool → SharedState → SharedState
in_shared true c = record c { count = suc c.count }
in_shared false c = c

-- what a call finds of the queue q
abbrev pub seen_at : ℕ → SharedState → Option Sees
seen_at q c = seen_by (is_at_door q c.door) (sees_of c)

-- what a look leaves, by its answer
abbrev pub look_shared : SectionAnswer ℕ → SharedState → Option ℕ → SharedState
look_shared a c n = record c { head = head_after a c.head; listings = looked_list a n c.listings }

-- what a call to list oneself leaves, by its answer
abbrev pub list_shared : SectionAnswer ℕ → SharedState → Option ℕ → ℕ → SharedState
list_shared a c n w = record c { head = head_after a c.head; listings = listed_list a n w c.listings }

-- the answer of the init: of a lazy one the next, of another what the input says
abbrev pub init_answer : Bool → List (Option ℕ) → Answer → Answer
init_answer true l a = next_answer l
init_answer false l a = a

-- what the step is told of the init's answer
abbrev pub polled_of : Answer → Polled
polled_of RanPending = PolledPending
polled_of (RanValue v) = PolledValue
polled_of (RanError e) = PolledError

-- a value or an error is kept
abbrev pub kept_after : Answer → Answer → Answer
kept_after RanPending old = old
kept_after a old = a

-- a poll of the init takes the first answer of a lazy one off
abbrev pub run_shared : SharedState → SharedState
run_shared c = record c { answers = rest_of c.answers }

-- what the fast release leaves, by whether the word was exactly the quick bit and whether the value is set
abbrev pub fast_shared : Bool → Bool → SharedState → SharedState
fast_shared true true c = record c { quick = false; ready = true }
fast_shared true false c = record c { quick = false }
fast_shared false fills c = c

-- what a release leaves, by whether the quick flag stood, with the value set or not
abbrev pub release_flags : Bool → Bool → SharedState → SharedState
release_flags true r c = record c { quick = false; ready = r }
release_flags false r c = record c { head = false; ready = r }

-- a release with the value lets all listings leave; one without wakes the first that was not woken
abbrev pub release_list : Bool → List (Listing ℕ) → List (Listing ℕ)
release_list true xs = []
release_list false xs = call_first xs

-- and hands out these wakers
abbrev pub release_wakers : Bool → List (Listing ℕ) → List ℕ
release_wakers true xs = all_out xs []
release_wakers false xs = option_to_list (first_waker xs)

-- a task that leaves with this ticket passes its turn on
abbrev pub is_passing : SharedState → ℕ → Bool
is_passing c n = passes_turn (is_free (sees_of c)) n c.listings

-- what a release leaves, with the value set or not, by its answer
abbrev pub release_shared : SectionAnswer ℕ → Bool → SharedState → SharedState
release_shared Gone fills c = c
release_shared _ fills c = record (release_flags c.quick fills c) { listings = release_list fills c.listings }

-- what is left after a task leaves with this ticket, by its answer
abbrev pub leave_shared : SectionAnswer ℕ → ℕ → SharedState → SharedState
leave_shared Gone n c = c
leave_shared _ n c = record c { listings = left_list (is_passing c n) n c.listings }

-- one less is counted
abbrev pub out_shared : SharedState → SharedState
out_shared c = record c { count = c.count - 1 }

-- no queue stands at the door
abbrev pub take_shared : SharedState → SharedState
take_shared c = record c { door = None; head = false; listings = [] }

-- what a step is given, besides what all tasks share
pub record StepInput : Type 0 where
  pub limit : ℕ  -- how many tasks may be counted in
  pub waker : ℕ  -- the task's waker
  pub init : Answer  -- what its init answers
  pub granted : Bool  -- whether memory is given

-- what a release, or a task that leaves, is answered of the queue q: `Left None` stands for both if the queue is at the
-- door. Which wakers they hand out stands apart, in `hands`
abbrev pub out_answer : ℕ → SharedState → SectionAnswer ℕ
out_answer q c = if is_at_door q c.door then Left None else Gone

-- what each call tells
abbrev pub answer : StepInput → SharedState → Call ℕ ℕ → Told ℕ ℕ
answer i c Load = Loaded (word_of c)
answer i c Quick = TriedQuick (is_zero (word_of c))
answer i c (Fast fills) = TriedFast fills (is_quick_bit (word_of c))
answer i c CountIn = CountedIn (nat_lt c.count i.limit) c.ready
answer i c AddOne = Added
answer i c CountOut = CountedOut (word_of (out_shared c))
answer i c DoorGet = Found c.door
answer i c DoorPut = PutQueue (put_answer i.granted c.door c.queues)
answer i c DoorTake = TakenOut (is_some c.door)
answer i c (Section q (LookOp n)) =
    let a = look_answer (seen_at q c) (is_waker i.waker (own_listing n c.listings)) in
    Was q (LookOp n) a (LookOp (looked_ticket a n))
answer i c (Section q (ListOp n w)) =
    let a = list_answer (seen_at q c) (is_some (kept_ticket n c.listings) || i.granted) in
    Was q (ListOp n w) a (ListOp (listed_ticket a n c.listings) (waker_left a w))
answer i c (Section q (ReleaseOp fills)) = Was q (ReleaseOp fills) (out_answer q c) (ReleaseOp fills)
answer i c (Section q (LeaveOp n)) = Was q (LeaveOp n) (out_answer q c) (LeaveOp n)
answer i c Refuse = Refused
answer i c Run = Polls (polled_of i.init)
answer i c Put = PutValue

-- what a call leaves that told this, of a task whose init gave k
abbrev pub left_by : Told ℕ ℕ → Answer → SharedState → SharedState
left_by (TriedQuick won) k c = quick_shared won c
left_by (TriedFast fills won) k c = fast_shared won fills c
left_by (CountedIn is_in ready) k c = in_shared is_in c
left_by Added k c = record c { count = suc c.count }
left_by (CountedOut w) k c = out_shared c
left_by (PutQueue q) k c = put_shared q c.door c
left_by (TakenOut stood) k c = take_shared c
left_by (Was q (LookOp n) a o) k c = look_shared a c n
left_by (Was q (ListOp n (Some w)) a o) k c = list_shared a c n w
left_by (Was q (ReleaseOp fills) a o) k c = release_shared a fills c
left_by (Was q (LeaveOp n) a o) k c = leave_shared a n c
left_by (Polls a) k c = run_shared c
left_by PutValue k c = record c { value = put_value k c.value }
left_by _ k c = c

-- the wakers that it hands out
abbrev pub hands : Told ℕ ℕ → SharedState → List ℕ
hands (Was q (ReleaseOp fills) a o) c = release_wakers fills c.listings
hands (Was q (LeaveOp n) a o) c = option_to_list (next_waker (is_passing c n) n c.listings)
hands _ c = []

-- nothing is recorded of a section whose queue is gone
abbrev pub unless_gone : SectionAnswer ℕ → List Entry → List Entry
unless_gone Gone es = []
unless_gone _ es = es

-- what is recorded of the task t, whose init gave k and answers given, if the wakers X are handed out
abbrev pub records : Told ℕ ℕ → Answer → ℕ → Answer → List ℕ → List Entry
records (TriedQuick won) given t k X = claim_entries won t
records (TriedFast fills won) given t k X = freed_entries won t k
records (Was q (LookOp n) a o) given t k X = claim_entries (is_claim a) t
records (Was q (ListOp n w) a o) given t k X = claim_entries (is_claim a) t
records (Was q (ReleaseOp fills) a o) given t k X = unless_gone a (release_entry k t X ∷ [])
records (Was q (LeaveOp n) a o) given t k X = unless_gone a (pass_entries t X)
records (Polls a) given t k X = Ran t given ∷ []
records _ given t k X = []

-- what its init gave, after the call
abbrev pub keeps : Told ℕ ℕ → Answer → Answer → Answer
keeps (Polls a) given k = kept_after given k
keeps _ given k = k

-- one step at a place, as the table of places has it: of the task t with the waker w and what its init gave so far, the
-- init answering a, memory being given or not
abbrev pub place_step : Bool → ℕ → SharedState → ℕ → ℕ → Answer → Answer → Bool → Place ℕ ℕ → Outcome
place_step lazy limit c t w k a granted p =
    let given = init_answer lazy c.answers a in
    let e = answer (record { limit = limit; waker = w; init = given; granted = granted }) c (call_at p) in
    outcome_of (left_by e k c) t (keeps e given k) (records e given t k (hands e c))
    (after (if granted then Some w else None) p e)

-- one step of a poll or drop that is under way; nothing else makes one
abbrev pub step_at : Bool → ℕ → SharedState → ℕ → ℕ → Answer → Answer → Bool → Step ℕ ℕ → Outcome
step_at lazy limit c t w k a granted (UnderWay p) = place_step lazy limit c t w k a granted p
step_at lazy limit c t w k a granted s = record { shared = c; step = s; kept = k; entries = [] }

-- one step of the task t
abbrev pub advance : Bool → ℕ → SharedState → ℕ → Task → Answer → Bool → Outcome
advance lazy limit c t x a granted = step_at lazy limit c t x.waker x.kept a granted x.step

-- what a put logs after n queues were made: the next one, if memory is given and none stands at the door
abbrev pub put_lines : Bool → Option ℕ → ℕ → List QueueLine
put_lines true None n = PutLine (suc n) ∷ []
put_lines _ _ n = []

-- what a call logs
abbrev pub call_lines : Bool → SharedState → Call ℕ ℕ → List QueueLine
call_lines granted c DoorPut = put_lines granted c.door c.queues
call_lines granted c (Section q op) = EnteredLine q ∷ []
call_lines granted c DoorTake = take_lines c.door
call_lines granted c _ = []

-- what one step logs
abbrev pub place_lines : Bool → SharedState → Place ℕ ℕ → List QueueLine
place_lines granted c p = call_lines granted c (call_at p)

-- what one step of a poll or drop logs
abbrev pub step_lines : Bool → SharedState → Step ℕ ℕ → List QueueLine
step_lines granted c (UnderWay p) = place_lines granted c p
step_lines granted c s = []

-- what the beginning of a drop records, by the step that it leads to: its end too, if there is no step to do
abbrev pub drop_entries : ℕ → Step ℕ ℕ → List Entry
drop_entries t Finished = DropEnd t ∷ DropBegin t ∷ []
drop_entries t _ = DropBegin t ∷ []

-- a replay under way. Of the clauses of `replay`, only the `exact` ones speak of it
pub record World : Type 0 where
  pub shared : SharedState
  pub tasks : ℕ → Option Task  -- the tasks by their numbers
  pub unfinished : ℕ  -- how many are not finished
  pub history : List Entry  -- the record, the newest entry first
  pub log : List QueueLine  -- the queue log, the newest line first

-- the tasks, with y at the number t
abbrev pub put_task : ℕ → Task → (ℕ → Option Task) → ℕ → Option Task
put_task t y tasks u = if t == u then Some y else tasks u

-- how many tasks are not finished after one of n such tasks comes to this step
abbrev pub unfinished_after : Step ℕ ℕ → ℕ → ℕ
unfinished_after Finished n = n - 1
unfinished_after _ n = n

-- a task that was made
abbrev pub fresh_task : Task
fresh_task = record { waker = 0; kept = RanPending; step = Resting RestStart }

-- the step of a task; one that was not made has nothing left to do
abbrev pub step_of : Option Task → Step ℕ ℕ
step_of None = Finished
step_of (Some x) = x.step

-- a new task, if none has the number t
abbrev pub make_world : World → ℕ → Option Task → World
make_world w t None = record w {
  tasks = put_task t fresh_task w.tasks;
  unfinished = suc w.unfinished;
  history = Made t ∷ w.history;
}
make_world w t (Some x) = w

-- a poll of t, by whether it is at rest
abbrev pub poll_world_by : Bool → World → ℕ → ℕ → Task → World
poll_world_by true w t k x = record w {
  tasks = put_task t (record x { waker = k; step = step_of_poll x.step }) w.tasks;
  history = Begin t k ∷ w.history;
}
poll_world_by false w t k x = w

-- a poll of t, which does nothing if there is no such task
abbrev pub poll_world : World → ℕ → ℕ → Option Task → World
poll_world w t k None = w
poll_world w t k (Some x) = poll_world_by (is_resting x.step) w t k x

-- a drop of t, by whether it is at rest
abbrev pub drop_world_by : Bool → World → ℕ → Task → World
drop_world_by true w t x = record w {
  tasks = put_task t (record x { step = step_of_drop x.step }) w.tasks;
  unfinished = unfinished_after (step_of_drop x.step) w.unfinished;
  history = drop_entries t (step_of_drop x.step) ++ w.history;
}
drop_world_by false w t x = w

-- a drop of t, which does nothing if there is no such task
abbrev pub drop_world : World → ℕ → Option Task → World
drop_world w t None = w
drop_world w t (Some x) = drop_world_by (is_resting x.step) w t x

-- what a step of t leaves of the world
abbrev pub step_world : World → ℕ → Task → Outcome → List QueueLine → World
step_world w t x o lines = record {
  shared = o.shared;
  tasks = put_task t (record x { step = o.step; kept = o.kept }) w.tasks;
  unfinished = unfinished_after o.step w.unfinished;
  history = o.entries ++ w.history;
  log = lines ++ w.log;
}

-- a step of t, by whether a poll or drop is under way
abbrev pub go_world_by : Bool → Bool → ℕ → World → ℕ → Answer → Bool → Task → World
go_world_by true lazy limit w t a granted x =
    step_world w t x (advance lazy limit w.shared t x a granted) (step_lines granted w.shared x.step)
go_world_by false lazy limit w t a granted x = w

-- a step of t, which does nothing if there is no such task
abbrev pub go_world : Bool → ℕ → World → ℕ → Answer → Bool → Option Task → World
go_world lazy limit w t a granted None = w
go_world lazy limit w t a granted (Some x) = go_world_by (in_call x.step) lazy limit w t a granted x

-- no poll or drop of a task is under way, if there is a task
abbrev pub IsIdle : Option Task → Type 0
IsIdle None = Unit {0}
IsIdle (Some x) = in_call x.step ≡ false

-- what a look finds
abbrev pub look_value : SharedState → Option ℕ
look_value c = if c.ready then Some c.value else None

-- what the owner is given, by whether the value is set
abbrev pub value_got : Bool → ℕ → Got
value_got true v = GotValue v
value_got false v = GotNone

-- what is left of a cell that is taken apart: the value, or the answers of its init
abbrev pub parts_got : Bool → SharedState → Got
parts_got true c = GotValue c.value
parts_got false c = GotAnswers c.answers

-- what an owner's call is given
abbrev pub owner_got : OwnerCall → SharedState → Got
owner_got Parts c = parts_got c.ready c
owner_got _ c = value_got c.ready c.value

-- the cell as a new one, with this value or none and with these answers, without a queue at the door
abbrev pub reset_shared : SharedState → Option ℕ → List (Option ℕ) → SharedState
reset_shared c v l = record (take_shared c) {
  count = 0;
  quick = false;
  ready = is_some v;
  value = unwrap_or v c.value;
  answers = l;
}

-- another value, if one is set
abbrev pub write_shared : Bool → ℕ → SharedState → SharedState
write_shared true v c = record c { value = v }
write_shared false v c = c

-- what an owner's call leaves
abbrev pub owner_shared : OwnerCall → SharedState → SharedState
owner_shared Take c = reset_shared c None c.answers
owner_shared (Write v) c = write_shared c.ready v c
owner_shared Parts c = reset_shared c None []
owner_shared (ReplaceValue v) c = reset_shared c (Some v) []
owner_shared (ReplaceAnswers l) c = reset_shared c None l

-- what an owner's call logs, by whether it replaces the cell
abbrev pub owner_lines : Bool → SharedState → List QueueLine
owner_lines true c = take_lines c.door
owner_lines false c = []

-- an owner's call, by whether every task is finished and whether the kind has the call
abbrev pub own_world_by : Bool → Bool → World → OwnerCall → World
own_world_by true true w o = record w {
  shared = owner_shared o w.shared;
  history = Own o (owner_got o w.shared) ∷ w.history;
  log = owner_lines (replaces o) w.shared ++ w.log;
}
own_world_by _ _ w o = w

-- the world after one input
abbrev pub world_after : Kind → ℕ → World → Input → World
world_after kind limit w (Make t) = make_world w t (w.tasks t)
world_after kind limit w (Poll t k) = poll_world w t k (w.tasks t)
world_after kind limit w (Drop t) = drop_world w t (w.tasks t)
world_after kind limit w (Go t a granted) = go_world (is_lazy kind) limit w t a granted (w.tasks t)
world_after kind limit w (Owns o) = own_world_by (w.unfinished == 0) (has_call kind o) w o
world_after kind limit w Looks = record w { history = Look (look_value w.shared) ∷ w.history }

-- a cell of the kind that nobody used
abbrev pub first_world : Kind → World
first_world kind = record {
  shared = record {
    count = 0;
    quick = false;
    ready = is_set (first_cell kind);
    door = None;
    head = false;
    listings = [];
    queues = 0;
    value = unwrap_or (value_in (first_cell kind)) 0;
    answers = first_answers kind;
  };
  tasks = λ t. None;
  unfinished = 0;
  history = [];
  log = [];
}

-- the world after these inputs, the newest input first
abbrev pub world_of : Kind → ℕ → List Input → World
world_of kind limit [] = first_world kind
world_of kind limit (i ∷ before) = world_after kind limit (world_of kind limit before) i

-- the record, the queue log and the queue at the door after these inputs
abbrev pub history_of : Kind → ℕ → List Input → List Entry
history_of kind limit inputs = (world_of kind limit inputs).history

-- the queue log
abbrev pub log_of : Kind → ℕ → List Input → List QueueLine
log_of kind limit inputs = (world_of kind limit inputs).log

-- the queue at the door
abbrev pub queue_of : Kind → ℕ → List Input → Option ℕ
queue_of kind limit inputs = (world_of kind limit inputs).shared.door
