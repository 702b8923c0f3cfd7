-- The clauses of the call say so.
use Rattle.std.proofs.Common.{rules}
use Rattle.cell_callers.proofs.look.looked_twice.Goals as goal

pub returns : goal.returns
returns g c = search rules
