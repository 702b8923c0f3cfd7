-- The clauses of the call say so.
use Rattle.std.proofs.Common.{rules}
use Rattle.cell_callers.proofs.promise.taken_out.Goals as goal

pub returns : goal.returns
returns g c = search rules
