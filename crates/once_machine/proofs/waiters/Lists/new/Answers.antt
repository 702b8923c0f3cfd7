-- Nobody holds a new list.
use Rattle.std.proofs.Common.{refl}
use Rattle.once_machine.proofs.waiters.Lists.new.Goals as goal

pub returns-clause-head : goal.returns-clause-head
returns-clause-head g c = refl
