-- If the value is set, the call is over.
use Rattle.std.proofs.Common.{rules}
use Rattle.once_machine.proofs.step.Step.start.Goals as goal

pub returns-then-is_ready-clause-line : goal.returns-then-is_ready-clause-line
returns-then-is_ready-clause-line g c = search rules
