-- Of the tasks so far each that is due has its waker among those that are handed out.
use Rattle.std.specs.List.{All}
use Rattle.once_judge.specs.Shown.{seen_of}
use Rattle.once_judge.proofs.Dues.{IsAmong}
use Rattle.once_judge.proofs.seen.Seen.due_outside.Given as goal

abbrev pub invariant-loop-t : goal.invariant-loop-t
invariant-loop-t l = All (λ p. IsAmong (seen_of l.self) l.wakers p.now) l.yielded
