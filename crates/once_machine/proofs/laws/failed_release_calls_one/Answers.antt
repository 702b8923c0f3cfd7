use Rattle.once_machine.proofs.Law.Passed.{at_most_one, one_called}
use Rattle.once_machine.proofs.laws.failed_release_calls_one.Goals as goal

pub returns : goal.returns
returns c = record { at_most_one = at_most_one; somebody = one_called }
