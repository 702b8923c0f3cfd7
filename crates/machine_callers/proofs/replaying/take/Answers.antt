-- The clauses of the call say so.
use Rattle.std.proofs.Common.{rules}
use Rattle.machine_callers.proofs.replaying.take.Goals as goal

pub returns : goal.returns
returns c = search rules
