-- One less is counted, and the word after is told.
use Rattle.std.proofs.Common.{rules}
use Rattle.once_script.proofs.plain.CoreParts.count_out.Goals as goal

pub returns : goal.returns
returns g c = search rules
