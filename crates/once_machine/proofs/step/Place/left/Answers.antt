-- The number of the place.
use Rattle.std.proofs.Common.{rules}
use Rattle.once_machine.proofs.step.Place.left.Goals as goal

pub returns-in-Release-clause-left : goal.returns-in-Release-clause-left
returns-in-Release-clause-left g c = search rules
