-- After an error the right is given back.
use Rattle.std.proofs.Common.{rules}
use Rattle.once_machine.proofs.step.Step.run.Goals as goal

pub returns-in-Error-clause-line : goal.returns-in-Error-clause-line
returns-in-Error-clause-line g c = search rules
