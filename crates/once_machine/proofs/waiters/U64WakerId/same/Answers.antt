-- The same is equal.
use Rattle.std.proofs.Common.{rules}
use Rattle.once_machine.proofs.waiters.U64WakerId.same.Goals as goal

pub returns-clause-same : goal.returns-clause-same
returns-clause-same c = search rules
