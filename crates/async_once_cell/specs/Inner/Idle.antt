-- What a task is at between two calls, and the step of the code that stands for it.
use Rattle.std.specs.Prelude.{Bool, true, false, None, Some, ⊤}
use Rattle.once_machine.specs.declared.step.Step.TheVariants.{Finished, Resting}
use Rattle.once_machine.specs.declared.step.Rest.TheVariants.{Run as RestRun, Start as RestStart, Wait as RestWait}
use Rattle.once_machine.specs.declared.step.Step.{Step}
use Rattle.async_once_cell.specs.declared.inner.task.Idle.{Idle}
use Rattle.async_once_cell.specs.declared.inner.task.Idle.TheVariants.{New, Listed, Unlisted, Quick, Queued}
use Rattle.async_once_cell.specs.declared.inner.task.Idle.TheVariants.{Finished as Over}

-- the step with which the next call begins
abbrev pub step_of : {W : Type 0} → Idle → Step W ⊤
step_of New = Resting RestStart
step_of (Listed n) = Resting (RestWait tt (Some n))
step_of Unlisted = Resting (RestWait tt None)
step_of Quick = Resting (RestRun None)
step_of Queued = Resting (RestRun (Some tt))
step_of Over = Finished

-- no call is to come
abbrev pub is_over : Idle → Bool
is_over Over = true
is_over _ = false
