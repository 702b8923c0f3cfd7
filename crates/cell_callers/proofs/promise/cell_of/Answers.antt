-- The clauses of the call say so.
use Rattle.std.proofs.Common.{rules}
use Rattle.cell_callers.proofs.promise.cell_of.Goals as goal

pub returns-clause-about : goal.returns-clause-about
returns-clause-about g = search rules
