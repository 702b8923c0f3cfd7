-- The clauses of the call say so.
use Rattle.std.proofs.Common.{rules}
use Rattle.cell_callers.proofs.lazy.given_up.Goals as goal

pub returns : goal.returns
returns g c = search rules
