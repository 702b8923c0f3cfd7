-- If the right is held and the own listing has no waker, it was woken or is not there.
use Rattle.std.proofs.Common.{rules}
use Rattle.once_machine.proofs.waiters.Lists.look_own.Goals as goal

pub returns-in-None-clause-held : goal.returns-in-None-clause-held
returns-in-None-clause-held g c = search rules
