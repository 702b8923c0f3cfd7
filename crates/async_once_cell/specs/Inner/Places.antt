-- Where calls of a task begin, and what stands beside the table of places.
use Rattle.std.specs.Prelude.{◌≡◌, ℕ, Bool, true, false, Option, Some, None}
use Rattle.once_machine.specs.declared.step.Polled.{Polled}
use Rattle.once_machine.specs.declared.step.Polled.TheVariants.{Pending, Value, Error}
use Rattle.once_machine.specs.Steps.{step_of_drop, step_of_poll}
use Rattle.once_machine.specs.declared.record.Ran.{Ran as Answer}
use Rattle.once_machine.specs.declared.record.Ran.TheVariants.{Pending as RanPending, Value as RanValue}
use Rattle.once_machine.specs.declared.record.Ran.TheVariants.{Error as RanError}
use Rattle.once_machine.specs.Book.{TaskState}
use Rattle.once_machine.specs.declared.step.Place.TheVariants.{List as AtList}
use Rattle.once_machine.specs.declared.step.Rest.TheVariants.{Wait as RestWait}
use Rattle.once_machine.specs.declared.step.Step.TheVariants.{Resting, UnderWay}
use Rattle.once_machine.specs.declared.step.Step.{Step}

-- a waiter at rest has this ticket
abbrev pub CanRest : ℕ → Step ℕ ℕ → Type 0
CanRest n (Resting (RestWait q (Some k))) = k ≡ n
CanRest n _ = ⊥

-- the answer in the record, which names a value and an error 0
abbrev pub unnamed : Polled → Answer
unnamed Pending = RanPending
unnamed Value = RanValue 0
unnamed Error = RanError 0

-- the copy of the waker is refused, after a look
abbrev pub CanRefuse : Step ℕ ℕ → Type 0
CanRefuse (UnderWay (AtList q k v)) = Unit {0}
CanRefuse _ = ⊥

-- a poll of the task t begins
abbrev pub task_begun : ℕ → TaskState → TaskState
task_begun t x = record x { waker = t; step = step_of_poll x.step }

-- a drop begins
abbrev pub task_dropping : TaskState → TaskState
task_dropping x = record x { step = step_of_drop x.step }

-- the number of a queue that is there
abbrev pub numbered : ℕ → Bool → Option ℕ
numbered q true = Some q
numbered q false = None
