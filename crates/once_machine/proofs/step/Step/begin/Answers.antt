-- A poll goes on from the place at rest.
use Rattle.std.proofs.Common.{rules}
use Rattle.once_machine.proofs.step.Step.begin.Goals as goal

pub returns : goal.returns
returns g c = search rules
