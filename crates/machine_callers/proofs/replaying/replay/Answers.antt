-- The clauses of the call say so.
use Rattle.std.proofs.Common.{rules}
use Rattle.machine_callers.proofs.replaying.replay.Goals as goal

pub returns-clause-entries : goal.returns-clause-entries
returns-clause-entries c = search rules

pub returns-clause-log : goal.returns-clause-log
returns-clause-log c = search rules

pub returns-clause-queue : goal.returns-clause-queue
returns-clause-queue c = search rules
