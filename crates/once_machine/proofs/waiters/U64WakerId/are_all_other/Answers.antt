-- Of numbers this is never said.
use Rattle.std.proofs.Common.{rules}
use Rattle.once_machine.proofs.waiters.U64WakerId.are_all_other.Goals as goal

pub returns : goal.returns
returns c = search rules
