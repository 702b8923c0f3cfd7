-- The log is the one that was written.
use Rattle.std.proofs.Common.{refl}
use Rattle.once_script.proofs.plain.Core.into_log.Goals as goal

pub returns : goal.returns
returns g c = refl
