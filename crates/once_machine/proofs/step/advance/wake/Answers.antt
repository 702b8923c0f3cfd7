-- The wakers that were handed out are woken.
use Rattle.std.proofs.Common.{rules}
use Rattle.once_machine.proofs.step.advance.wake.Goals as goal

pub returns-in-Released-clause-wakes : goal.returns-in-Released-clause-wakes
returns-in-Released-clause-wakes g c = search rules
