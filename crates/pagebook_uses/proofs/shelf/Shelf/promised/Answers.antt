-- The clauses of the call say so.
use Rattle.std.proofs.Common.{rules}
use Rattle.pagebook_uses.proofs.shelf.Shelf.promised.Goals as goal

pub returns-clause-about : goal.returns-clause-about
returns-clause-about g c = search rules

pub new-requires : goal.new-requires
new-requires g c = search rules
