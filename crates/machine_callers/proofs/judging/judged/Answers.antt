-- The clauses of the call say so.
use Rattle.std.proofs.Common.{rules}
use Rattle.machine_callers.proofs.judging.judged.Goals as goal

pub returns-clause-run : goal.returns-clause-run
returns-clause-run c = search rules

pub returns-clause-called : goal.returns-clause-called
returns-clause-called c = search rules
