-- A close leaves all as it was.
use Rattle.std.proofs.Common.{refl}
use Rattle.once_script.proofs.world.side.ReplaySideSideU64.close.Goals as goal

pub returns-clause-did : goal.returns-clause-did
returns-clause-did c = refl
