-- A drop goes on from the place at rest.
use Rattle.std.proofs.Common.{rules}
use Rattle.once_machine.proofs.step.Step.begin_drop.Goals as goal

pub returns-in-UnderWay-clause-step : goal.returns-in-UnderWay-clause-step
returns-in-UnderWay-clause-step g c = search rules
