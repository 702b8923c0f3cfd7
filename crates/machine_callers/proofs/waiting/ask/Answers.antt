-- The clauses of the call say so.
use Rattle.std.proofs.Common.{rules}
use Rattle.machine_callers.proofs.waiting.ask.Goals as goal

pub returns-clause-claims : goal.returns-clause-claims
returns-clause-claims g c = search rules

pub returns-clause-waits : goal.returns-clause-waits
returns-clause-waits g c = search rules

pub returns-clause-ticket : goal.returns-clause-ticket
returns-clause-ticket g c = search rules

pub returns-clause-listed : goal.returns-clause-listed
returns-clause-listed g c = search rules
