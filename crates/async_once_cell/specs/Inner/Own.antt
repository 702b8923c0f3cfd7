-- What a task knows of itself and of its cell's log, and what a moment makes of that.
use Rattle.std.specs.Prelude.{◌≡◌, ℕ, suc, List, [], ◌∷◌, ◌++◌, reverse}
use mathlib.Core.List.{IsPrefix}
use Rattle.pagebook.specs.Pages.{Book, Held, Named, View}
use Rattle.once_machine.specs.Table.{Next}
use Rattle.once_machine.specs.Record.{Entry}
use Rattle.once_machine.specs.declared.record.Ran.{Ran as Answer}
use Rattle.once_machine.specs.Book.{At, Page, TaskState}
use Rattle.once_machine.specs.Machine.{fresh_task, progress_entries}
use Rattle.async_once_cell.specs.Kept.{Grew, Sheet, entries_of, hand, sheets}

-- what a task knows of itself and of the log
pub record Own : Type 0 where
  pub number : ℕ  -- the task's number
  pub task : TaskState  -- what stands on its page
  pub log : List Entry  -- the log as far as it was seen, the oldest entry first

-- whose page lies first in a hand
abbrev pub number_in : Held Sheet → ℕ
number_in ((suc (suc t), s) ∷ h) = t
number_in _ = 0

-- what stands on a task's page
abbrev pub task_on : Page → TaskState
task_on (At x) = x
task_on _ = fresh_task

-- what stands on the first page of a hand
abbrev pub task_in : Held Sheet → TaskState
task_in [] = fresh_task
task_in (e ∷ h) = task_on e.1.page

-- a hand has one page, which is a task's, and the log has been seen so far that it has all of the task's entries
abbrev pub IsHand : List Entry → Held Sheet → Type 0
IsHand log h = h ≡ sheets log (hand (number_in h) (task_in h))

-- what a task knows that has this view of the book
abbrev pub own_in : View Entry Sheet → Own
own_in v = record { number = number_in v.1; task = task_in v.1; log = v.0 }

-- w is the word k of the book b
abbrev pub IsWord : Named → Book → ℕ → Type 0
IsWord w b k = (w.book ≡ b) × (w.key ≡ k)

-- the entries of a step of t, the oldest first:
-- what it did, and the end of the call, if the table of places tells one
abbrev pub told : ℕ → Answer → Next ℕ ℕ → List Entry → List Entry
told t k next did = reverse (progress_entries next.progress t 0 k ++ did)

-- the task's page was turned
pub record Turned (v : Own) (y : TaskState) (es : List Entry) (w : Own) : Type 0 where
  pub number : w.number ≡ v.number  -- it is the same task
  pub task : w.task ≡ y  -- y stands on its page now
  pub log : Grew es v.log w.log  -- the log grew, and its newest entries are these
  -- they are the task's, and it added no others
  pub mine : entries_of v.number w.log ≡ entries_of v.number v.log ++ es

-- the task did nothing
pub record Stayed (v w : Own) : Type 0 where
  pub number : w.number ≡ v.number  -- it is the same task
  pub task : w.task ≡ v.task  -- the same stands on its page
  pub log : IsPrefix v.log w.log  -- others may have added to the log
  pub mine : entries_of v.number w.log ≡ entries_of v.number v.log  -- and the task did not
