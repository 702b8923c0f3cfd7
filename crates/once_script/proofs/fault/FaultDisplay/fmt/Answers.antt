-- The text of the fault.
use Rattle.std.proofs.Common.{rules}
use Rattle.once_script.proofs.fault.FaultDisplay.fmt.Goals as goal

pub returns-in-Memory-clause-writes : goal.returns-in-Memory-clause-writes
returns-in-Memory-clause-writes g c = search rules
