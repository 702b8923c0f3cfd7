-- The clauses of the call say so.
use Rattle.std.proofs.Common.{rules}
use Rattle.cell_callers.proofs.wait.waited.Goals as goal

pub returns-clause-value : goal.returns-clause-value
returns-clause-value g c = search rules

pub returns-clause-error : goal.returns-clause-error
returns-clause-error g c = search rules

pub returns-clause-late : goal.returns-clause-late
returns-clause-late g c = search rules
