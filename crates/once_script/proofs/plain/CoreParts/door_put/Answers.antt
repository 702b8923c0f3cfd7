-- A queue is at the door, unless memory is refused.
use Rattle.std.proofs.Common.{rules}
use Rattle.once_script.proofs.plain.CoreParts.door_put.Goals as goal

pub returns : goal.returns
returns g c = search rules
