-- The clauses of the call say so.
use Rattle.std.proofs.Common.{rules}
use Rattle.machine_callers.proofs.parts.PassingParts.fast.Goals as goal

pub returns : goal.returns
returns g c = search rules
