use Rattle.std.proofs.Common.{rules}
use Rattle.once_machine.proofs.Law.Nobody.{nobody_forgotten}
use Rattle.async_once_cell.proofs.once.future.Initializing.is_run.Goals as goal

pub returns-in-Shared-clause-run : goal.returns-in-Shared-clause-run
returns-in-Shared-clause-run g c = search rules

pub returns-in-Shared-clause-nobody_forgotten : goal.returns-in-Shared-clause-nobody_forgotten
returns-in-Shared-clause-nobody_forgotten g c = search (nobody_forgotten, rules)
