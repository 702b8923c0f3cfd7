-- A task was woken if what is kept of it says so.
use Rattle.std.proofs.Common.{subst, Decides}
use Rattle.once_judge.specs.Seen.{TaskSeen}
use Rattle.once_judge.specs.Legal.{WasCalled}
use Rattle.once_judge.specs.Shown.{seen_of}
use Rattle.once_judge.proofs.seen.Seen.was_called.Goals as goal

pub returns : goal.returns
returns c = let P : TaskSeen → Type 0 = λ x. Decides c.is_called.result (WasCalled x (seen_of c.args.self.now)) in subst P c.task.ensures c.is_called.ensures
