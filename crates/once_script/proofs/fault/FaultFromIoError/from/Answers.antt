-- Want of memory is told apart from a failure.
use Rattle.std.proofs.Common.{rules}
use Rattle.once_script.proofs.fault.FaultFromIoError.from.Goals as goal

pub returns-then-eq : goal.returns-then-eq
returns-then-eq c = search rules
