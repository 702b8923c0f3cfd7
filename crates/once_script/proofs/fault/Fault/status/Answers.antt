-- The status of the fault.
use Rattle.std.proofs.Common.{rules}
use Rattle.once_script.proofs.fault.Fault.status.Goals as goal

pub returns-in-Io : goal.returns-in-Io
returns-in-Io c = search rules
