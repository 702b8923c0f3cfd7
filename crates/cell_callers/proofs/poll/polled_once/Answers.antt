-- The clauses of the call say so.
use Rattle.std.proofs.Common.{rules}
use Rattle.cell_callers.proofs.poll.polled_once.Goals as goal

pub returns-clause-one_call : goal.returns-clause-one_call
returns-clause-one_call g c = search rules

pub returns-clause-late : goal.returns-clause-late
returns-clause-late g c = search rules
