-- The clauses of the call say so.
use Rattle.std.proofs.Common.{rules}
use Rattle.cell_callers.proofs.promise.taken.Goals as goal

pub returns-clause-value : goal.returns-clause-value
returns-clause-value g = search rules

pub returns-clause-about : goal.returns-clause-about
returns-clause-about g = search rules
