-- What each moment without the lock tells: of the number found in the word, from one view of the book to the next.
use Rattle.std.specs.Prelude.{◌≡◌, ℕ, suc, ◌==◌, true, false, cond, nat_lt, List, [], ◌∷◌, reverse, None}
use Rattle.pagebook.specs.Pages.{View}
use Rattle.once_machine.specs.Word.{flags_of}
use Rattle.once_machine.specs.Steps.{step_of_drop}
use Rattle.once_machine.specs.Table.{Told, CountedIn, PutQueue, PutValue, Ran, Refused as RefusedCopy, Taken}
use Rattle.once_machine.specs.Record.{Begin, Entry, Made}
use Rattle.once_machine.specs.Book.{TaskState}
use Rattle.once_machine.specs.Machine.{drop_entries, fresh_task}
use Rattle.async_once_cell.specs.Inner.Page.{Went, WordTells}
use Rattle.async_once_cell.specs.Record.{Looks}
use Rattle.async_once_cell.specs.Inner.Recalls.{HasRecalled}
use Rattle.async_once_cell.specs.Inner.TwoTasks.{AreTwo, HasLearned}
use Rattle.async_once_cell.specs.Inner.Places.{task_begun, task_dropping}
use Rattle.async_once_cell.specs.Kept.{Grew, Sheet, entries_of, hand, most, sheets, writing_sheet}
use Rattle.async_once_cell.specs.declared.inner.hand.Act.{Act}
use Rattle.async_once_cell.specs.declared.inner.hand.Act.TheVariants.{ByTable, Enter, Full, Learn, Meet}
use Rattle.async_once_cell.specs.declared.inner.hand.Act.TheVariants.{NonePut, Recall, Refused, Unput}
use Rattle.async_once_cell.specs.declared.inner.hand.Act.TheVariants.{Begin as BeginPoll, BeginDrop, Ran as InitRan}
use Rattle.async_once_cell.specs.declared.inner.hand.Act.TheVariants.{Look as LookFor, Make as MakeTask}
use Rattle.async_once_cell.specs.Inner.Own.{IsHand, Stayed, Turned, number_in, own_in, task_in}

-- the hand is the task's still, whose page has turned so
abbrev pub Turns : View Entry Sheet → TaskState → List Entry → View Entry Sheet → Type 0
Turns v y es w = IsHand w.0 w.1 × Turned (own_in v) y es (own_in w)

-- the task was told this, and goes on by the table
abbrev pub Goes : View Entry Sheet → Told ℕ ℕ → View Entry Sheet → Type 0
Goes v e w = IsHand w.0 w.1 × Went (own_in v) e [] (own_in w)

-- the task did nothing
abbrev pub Stays : View Entry Sheet → View Entry Sheet → Type 0
Stays v w = IsHand w.0 w.1 × Stayed (own_in v) (own_in w)

-- a task is made, by a hand that has no page
abbrev pub Makes : View Entry Sheet → View Entry Sheet → Type 0
Makes v w = (t : ℕ) × (w.1 ≡ sheets w.0 (hand t fresh_task)) × Grew (Made t ∷ []) v.0 w.0

-- each moment
abbrev pub Tells : Act → View Entry Sheet → ℕ → View Entry Sheet → Type 0
Tells LookFor v n w = Looks v n w
Tells MakeTask v n w = Makes v w
Tells ByTable v n w = WordTells v n w
Tells Full v n w =
    cond (nat_lt (flags_of n).count most) (Stays v w) (Goes v (CountedIn false (flags_of n).ready) w)
Tells (Enter m) v n w = cond (n == m) (Goes v (CountedIn true (flags_of m).ready) w) (Stays v w)
Tells NonePut v n w = cond (n == 0) (Goes v (Taken false) w) (Stays v w)
Tells BeginPoll v n w =
    Turns v (task_begun (number_in v.1) (task_in v.1)) (Begin (number_in v.1) (number_in v.1) ∷ []) w
Tells BeginDrop v n w =
    Turns v (task_dropping (task_in v.1))
    (reverse (drop_entries (number_in v.1) (step_of_drop (task_in v.1).step))) w
Tells (InitRan a) v n w = Goes v (Ran a) w
Tells (Refused why) v n w = Goes v RefusedCopy w
Tells (Unput why) v n w = Goes v (PutQueue None) w
Tells Learn v n w = HasLearned v w
Tells Recall v n w = HasRecalled v w
Tells Meet v n w = AreTwo v w

-- the slot is empty still, and the task begins to write it
abbrev pub Writes : View Entry Sheet → View Entry Sheet → Type 0
Writes v w = (w.1 ≡ (suc (suc (number_in v.1)), writing_sheet (entries_of (number_in v.1) w.0) (task_in v.1)) ∷ [])
    × Grew [] v.0 w.0 × (entries_of (number_in v.1) w.0 ≡ entries_of (number_in v.1) v.0)

-- the value is put
abbrev pub Puts : View Entry Sheet → View Entry Sheet → Type 0
Puts v w = Goes v PutValue w
