-- The clauses of the call say so.
use Rattle.std.proofs.Common.{rules}
use Rattle.pagebook_uses.proofs.memo.get.Goals as goal

pub returns-in-Some : goal.returns-in-Some
returns-in-Some c = search rules
