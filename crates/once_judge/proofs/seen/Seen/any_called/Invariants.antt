-- Of the tasks so far none was woken.
use Rattle.std.specs.List.{All}
use Rattle.once_judge.specs.Legal.{WasCalled}
use Rattle.once_judge.specs.Shown.{seen_of, task_in}
use Rattle.once_judge.proofs.seen.Seen.any_called.Given as goal

abbrev pub invariant-loop-task : goal.invariant-loop-task
invariant-loop-task l = All (λ p. WasCalled (task_in p.1.now) (seen_of l.self) → ⊥) l.yielded
