-- The clauses of the call say so.
use Rattle.std.proofs.Common.{rules}
use Rattle.pagebook_uses.proofs.hall.Hall.close.Goals as goal

pub returns-clause-counted : goal.returns-clause-counted
returns-clause-counted c = search rules
