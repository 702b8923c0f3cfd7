-- A new step rests at the start.
use Rattle.std.proofs.Common.{refl}
use Rattle.once_machine.proofs.step.Step.new.Goals as goal

pub returns : goal.returns
returns g c = refl
