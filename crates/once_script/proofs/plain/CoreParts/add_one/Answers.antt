-- One more is counted, whatever the limit is.
use Rattle.std.proofs.Common.{rules}
use Rattle.once_script.proofs.plain.CoreParts.add_one.Goals as goal

pub returns : goal.returns
returns g c = search rules
