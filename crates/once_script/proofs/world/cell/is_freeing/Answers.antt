-- Only at the place of that name.
use Rattle.std.proofs.Common.{rules}
use Rattle.once_script.proofs.world.cell.is_freeing.Goals as goal

pub returns-in-UnderWay-Fast : goal.returns-in-UnderWay-Fast
returns-in-UnderWay-Fast g c = search rules
