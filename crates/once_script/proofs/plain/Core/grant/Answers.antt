-- Nothing else changes.
use Rattle.std.proofs.Common.{refl}
use Rattle.once_script.proofs.plain.Core.grant.Goals as goal

pub returns-clause-state : goal.returns-clause-state
returns-clause-state g c = refl
