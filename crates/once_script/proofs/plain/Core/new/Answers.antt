-- The state of a new core.
use Rattle.std.proofs.Common.{rules}
use Rattle.once_script.proofs.plain.Core.new.Goals as goal

pub returns : goal.returns
returns g c = search rules
