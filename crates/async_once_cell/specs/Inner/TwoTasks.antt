-- What a task knows by its hand after it learned of others, and if two hands are of one book.
use Rattle.std.specs.Prelude.{◌≡◌, ◌≢◌, drop, take}
use Rattle.pagebook.specs.Pages.{View}
use Rattle.once_machine.specs.Record.{Entry}
use Rattle.async_once_cell.specs.Kept.{Sheet}
use Rattle.async_once_cell.specs.Inner.Own.{IsHand, number_in}

-- the page stays as it is, and the log as it is seen now has no entry of the task that was not seen before
abbrev pub HasLearned : View Entry Sheet → View Entry Sheet → Type 0
HasLearned v w = (w.1 ≡ v.1) × IsHand w.0 w.1

-- the pages stay as they are, the first two are of two tasks, and the log has no entry of the first that was not seen
abbrev pub AreTwo : View Entry Sheet → View Entry Sheet → Type 0
AreTwo v w = (w.1 ≡ v.1) × (number_in v.1 ≢ number_in (drop 1 v.1)) × IsHand w.0 (take 1 w.1)
