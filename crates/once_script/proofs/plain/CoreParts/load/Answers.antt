-- The whole word is told.
use Rattle.std.proofs.Common.{rules}
use Rattle.once_script.proofs.plain.CoreParts.load.Goals as goal

pub returns : goal.returns
returns g c = search rules
