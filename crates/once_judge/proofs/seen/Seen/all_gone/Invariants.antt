-- Of the tasks so far each was not made, or is gone.
use Rattle.std.specs.List.{All}
use Rattle.once_judge.specs.Shown.{task_in}
use Rattle.once_judge.proofs.Dues.{Over}
use Rattle.once_judge.proofs.seen.Seen.all_gone.Given as goal

abbrev pub invariant-loop-t : goal.invariant-loop-t
invariant-loop-t l = All (λ p. Over (task_in p.1.now).status) l.yielded
