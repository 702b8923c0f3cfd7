-- What a task knows by its page: whether it rests with the right, which the record says too.
use Rattle.std.specs.Prelude.{◌≡◌, ◌↔◌, ℕ, Bool, true, false, reverse}
use Rattle.pagebook.specs.Pages.{View}
use Rattle.once_machine.specs.Record.{Entry, Once}
use Rattle.once_machine.specs.Steps.{in_call}
use Rattle.once_machine.specs.Tasks.{Holding, status}
use Rattle.once_machine.specs.declared.step.Rest.TheVariants.{Run}
use Rattle.once_machine.specs.declared.step.Step.TheVariants.{Resting}
use Rattle.once_machine.specs.declared.step.Step.{Step}
use Rattle.async_once_cell.specs.Kept.{Sheet}
use Rattle.async_once_cell.specs.Inner.Own.{IsHand, number_in, task_in}

-- the task rests with the right
abbrev pub rests_with_right : Step ℕ ℕ → Bool
rests_with_right (Resting (Run by)) = true
rests_with_right _ = false

-- the page stays as it is, and the log as it is seen now has no entry of the task that was not seen before. If the task
-- is in no call, the log says that it holds exactly if the page does
abbrev pub HasRecalled : View Entry Sheet → View Entry Sheet → Type 0
HasRecalled v w =
    (w.1 ≡ v.1) × IsHand w.0 w.1
    × (in_call (task_in v.1).step ≡ false
    → (rests_with_right (task_in v.1).step ≡ true) ↔ (status Once (number_in v.1) (reverse w.0) ≡ Holding))
