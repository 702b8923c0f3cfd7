-- Only at the place of that name.
use Rattle.std.proofs.Common.{rules}
use Rattle.once_script.proofs.world.cell.is_running.Goals as goal

pub returns-in-UnderWay-Run : goal.returns-in-UnderWay-Run
returns-in-UnderWay-Run g c = search rules
