-- The state after the queue was taken out.
use Rattle.std.proofs.Common.{rules}
use Rattle.once_script.proofs.plain.Core.take_out.Goals as goal

pub returns-clause-state : goal.returns-clause-state
returns-clause-state g c = search rules
