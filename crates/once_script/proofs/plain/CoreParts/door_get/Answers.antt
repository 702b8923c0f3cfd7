-- The queue at the door is told.
use Rattle.std.proofs.Common.{rules}
use Rattle.once_script.proofs.plain.CoreParts.door_get.Goals as goal

pub returns : goal.returns
returns g c = search rules
