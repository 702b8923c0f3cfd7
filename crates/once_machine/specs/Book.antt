-- The rule of a cell that threads share: what its words, its pages and its log are between any two of their steps.
use Rattle.std.specs.Prelude.{◌≡◌, ◌<◌, ◌^◌, ◌⊎◌, ◌↔◌, ℕ, suc, Bool, true, false, nat_lt}
use Rattle.std.specs.Prelude.{List, [], ◌∷◌, Option, Some, None, reverse, slice_get}
use Rattle.once_machine.specs.Numbers.{bit}
use Rattle.once_machine.specs.Word.{flags_of}
use Rattle.once_machine.specs.Record.{Answer, RanValue, Entry, Once}
use Rattle.once_machine.specs.Inputs.{Input, Poll, Go, Owns}
use Rattle.once_machine.specs.Machine.{Listing, Task, Step, UnderWay, Place, AtList, AtFast}
use Rattle.once_machine.specs.Machine.{AtAddOne, AtDoorAgain, AtRelease, EndMemory}
use Rattle.once_machine.specs.Machine.{World, is_value, leave_place, put_task, step_of, first_world, world_after}
use Rattle.once_machine.specs.Machine.{word_of}

-- what a thread may do next
pub data Move : Type 0 where
  Given : (input : Input) → Move  -- it gives the machine an input
  Refuse : (task : ℕ) → Move  -- it is refused the copy of its waker, which it asked for after a look

-- a task that looked and would list itself leaves for want of memory, if its copy is refused
abbrev pub refused_step : Step ℕ ℕ → Step ℕ ℕ
refused_step (UnderWay (AtList q n w)) = UnderWay (leave_place q n EndMemory)
refused_step s = s

-- the copy of the waker of t is refused
abbrev pub refuse_world : World → ℕ → Option Task → World
refuse_world w t None = w
refuse_world w t (Some x) = record w { tasks = put_task t (record x { step = refused_step x.step }) w.tasks }

-- the world after one move
abbrev pub world_moved : ℕ → World → Move → World
world_moved limit w (Given i) = world_after Once limit w i
world_moved limit w (Refuse t) = refuse_world w t (w.tasks t)

-- the world after these moves, the newest first, of a cell that begins empty
abbrev pub world_by : ℕ → List Move → World
world_by limit [] = first_world Once
world_by limit (m ∷ before) = world_moved limit (world_by limit before) m

-- the log says that a value was set, and not which: each is 0 in it
abbrev pub IsUnnamed : Answer → Type 0
IsUnnamed (RanValue v) = v ≡ 0
IsUnnamed _ = Unit {0}

-- what tasks may do that share a cell: all but the calls of its owner. The waker of a task is its number
abbrev pub IsShared : Input → Type 0
IsShared (Owns o) = ⊥
IsShared (Poll t w) = w ≡ t
IsShared (Go t a granted) = IsUnnamed a
IsShared _ = Unit {0}

-- the same of each move
abbrev pub AreShared : List Move → Type 0
AreShared [] = Unit {0}
AreShared (Given i ∷ before) = IsShared i × AreShared before
AreShared (Refuse t ∷ before) = AreShared before

-- tasks that share a cell may lead here
abbrev pub TasksReach : ℕ → World → Type 0
TasksReach limit w = (moves : List Move) × AreShared moves × (w ≡ world_by limit moves)

-- a holder at this place wrote the value into the slot, and did not yet give the right back
abbrev pub has_written_at : Place ℕ ℕ → Bool
has_written_at (AtFast e) = is_value e
has_written_at (AtAddOne e) = is_value e
has_written_at (AtDoorAgain e) = is_value e
has_written_at (AtRelease q e) = is_value e
has_written_at _ = false

-- the same of a step
abbrev pub has_written : Step ℕ ℕ → Bool
has_written (UnderWay p) = has_written_at p
has_written _ = false

-- the slot is written if the value is set or a holder wrote it, and only then
abbrev pub SlotIs : Bool → World → Type 0
SlotIs slot w = (slot ≡ true) ↔ ((w.shared.ready ≡ true) ⊎ ((t : ℕ) × (has_written (step_of (w.tasks t)) ≡ true)))

-- what stands on a page
pub data Page : Type 0 where
  Door : (made : ℕ) → (queue : Option ℕ) → Page  -- how many queues were made, and which stands at the door
  Queue : (head : Bool) → (listings : List (Listing ℕ)) → Page  -- the queue's flag, and its listings
  At : (task : Task) → Page  -- a task

-- the page of a task that was made
abbrev pub task_page : Option Task → Option Page
task_page None = None
task_page (Some x) = Some (At x)

-- the book of the world w
pub record IsBookOf (limit : ℕ) (w : World) (word has_put : ℕ) (slot : Bool) (pages : List Page)
    (log : List Entry) : Type 0 where
  pub reached : TasksReach limit w  -- tasks that share the cell led here
  pub within : word < 2 ^ 64  -- the word is a u64
  pub word_is : flags_of word ≡ word_of w.shared  -- the word is the count and the two flags
  pub put_is : has_put ≡ bit (nat_lt 0 w.shared.queues)  -- 1 if a queue was ever put, and else 0
  pub slot_is : SlotIs slot w  -- whether the slot is written
  pub door_is : slice_get pages 0 ≡ Some (Door w.shared.queues w.shared.door)  -- page 0 is the door's
  pub queue_is : slice_get pages 1 ≡ Some (Queue w.shared.head w.shared.listings)  -- page 1 is the queue's
  pub tasks_are : (t : ℕ) → slice_get pages (suc (suc t)) ≡ task_page (w.tasks t)  -- page t + 2 is that of the task t
  pub log_is : w.history ≡ reverse log  -- the log is the record, the oldest entry first

-- the rule: between any two steps it is the book of some world
abbrev pub IsBook : ℕ → ℕ → ℕ → Bool → List Page → List Entry → Type 0
IsBook limit word has_put slot pages log = (w : World) × IsBookOf limit w word has_put slot pages log

-- a task, by the name that async_once_cell uses
abbrev pub TaskState : Type 0
TaskState = Task
