-- Of the tasks so far none waits.
use Rattle.std.specs.List.{All}
use Rattle.std.proofs.Common.{◌≡◌}
use Rattle.once_machine.specs.Tasks.{Waiting}
use Rattle.once_judge.specs.Shown.{seen_of}
use Rattle.once_judge.proofs.seen.Seen.some_waits.Given as goal

abbrev pub invariant-loop-t : goal.invariant-loop-t
invariant-loop-t l = All (λ p. ((seen_of l.self).task p.now).status ≡ Waiting → ⊥) l.yielded
