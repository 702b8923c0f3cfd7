-- One more is counted below the limit; else the value is set.
use Rattle.std.proofs.Common.{rules}
use Rattle.once_script.proofs.plain.CoreParts.count_in.Goals as goal

pub returns-then-is_ready : goal.returns-then-is_ready
returns-then-is_ready g c = search rules

pub returns-else-is_ready : goal.returns-else-is_ready
returns-else-is_ready g c = search rules
