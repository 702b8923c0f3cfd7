-- What a call of the parts tells of a task's page: it goes on by the table of places.
use Rattle.std.specs.Prelude.{ℕ, false, List, [], Some}
use Rattle.pagebook.specs.Pages.{View}
use Rattle.once_machine.specs.declared.step.Polled.TheVariants.{Pending}
use Rattle.once_machine.specs.Table.{Call, Refuse, Section, Told, Ran, Next, after, call_at}
use Rattle.once_machine.specs.declared.record.Ran.{Ran as Answer}
use Rattle.once_machine.specs.Record.{Entry}
use Rattle.once_machine.specs.Book.{TaskState}
use Rattle.once_machine.specs.Machine.{keeps, records}
use Rattle.once_machine.specs.declared.step.Step.{Step}
use Rattle.once_machine.specs.declared.step.Step.TheVariants.{UnderWay}
use Rattle.once_machine.specs.declared.step.Progress.TheVariants.{More}
use Rattle.once_machine.specs.Words.{IsFound, found}
use Rattle.async_once_cell.specs.Kept.{Sheet}
use Rattle.async_once_cell.specs.Inner.Own.{IsHand, Own, Turned, own_in, task_in, told}
use Rattle.async_once_cell.specs.Inner.Places.{unnamed}

-- the call of a task's place; between two calls it is one that no place makes
abbrev pub call_in : Step ℕ ℕ → Call ℕ ℕ
call_in (UnderWay p) = call_at p
call_in _ = Refuse

-- the queue of a section
abbrev pub queue_of : Call ℕ ℕ → ℕ
queue_of (Section q op) = q
queue_of _ = 0

-- what follows, if v is the task's waker
abbrev pub next_of : Step ℕ ℕ → ℕ → Told ℕ ℕ → Next ℕ ℕ
next_of (UnderWay p) v e = after (Some v) p e
next_of s v e = record { closes = false; progress = More; step = s }

-- what an init answered, as the record names it
abbrev pub given_in : Told ℕ ℕ → Answer
given_in (Ran a) = unnamed a
given_in _ = unnamed Pending

-- the task after the call
abbrev pub task_after : TaskState → Told ℕ ℕ → TaskState
task_after x e = record x { step = (next_of x.step x.waker e).step; kept = keeps e (given_in e) x.kept }

-- the task's page went on by the table, and the log grew by what the table records, X being handed out
abbrev pub Went : Own → Told ℕ ℕ → List ℕ → Own → Type 0
Went v e X w =
    Turned v (task_after v.task e)
    (told v.number (task_after v.task e).kept (next_of v.task.step v.task.waker e)
    (records e (given_in e) v.number v.task.kept X)) w

-- each step of the word by a task alone, by the number found there
abbrev pub WordTells : View Entry Sheet → ℕ → View Entry Sheet → Type 0
WordTells v n w =
    IsHand w.0 w.1 × IsFound (call_in (task_in v.1).step) n
    × Went (own_in v) (found (call_in (task_in v.1).step) n) [] (own_in w)
