use Rattle.once_machine.proofs.Law.Filled.{filled_once}
use Rattle.once_machine.proofs.Law.Given.{given_once}
use Rattle.once_machine.proofs.laws.filled_once.Goals as goal

pub returns : goal.returns
returns c = record { filled = filled_once; given = given_once }
