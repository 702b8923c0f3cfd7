-- Only at the place of that name.
use Rattle.std.proofs.Common.{rules}
use Rattle.once_script.proofs.world.cell.is_adding.Goals as goal

pub returns-in-UnderWay-AddOne : goal.returns-in-UnderWay-AddOne
returns-in-UnderWay-AddOne g c = search rules
