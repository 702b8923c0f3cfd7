use Rattle.once_machine.proofs.Law.Nobody.{nobody_forgotten}
use Rattle.once_machine.proofs.laws.set_value_calls_all.Goals as goal

pub returns : goal.returns
returns c = nobody_forgotten
