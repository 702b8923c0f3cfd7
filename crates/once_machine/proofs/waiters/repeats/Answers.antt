-- The waker is other than each that came before, if `repeats` denies that it is the same as one.
use Rattle.std.proofs.Common.{arith}
use Rattle.once_machine.proofs.waiters.repeats.Goals as goal

pub returns-in-Some-clause-no : goal.returns-in-Some-clause-no
returns-in-Some-clause-no g c = grind arith
