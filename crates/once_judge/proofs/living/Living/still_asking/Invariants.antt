-- Of the tasks so far each that asks is kept.
use Rattle.std.specs.List.{All}
use Rattle.once_judge.proofs.Dues.{AsksIn}
use Rattle.once_judge.proofs.living.Living.still_asking.Given as goal

abbrev pub invariant-loop-t : goal.invariant-loop-t
invariant-loop-t l = All (λ p. AsksIn l.self.all l.self.handed l.asking p.now) l.yielded
