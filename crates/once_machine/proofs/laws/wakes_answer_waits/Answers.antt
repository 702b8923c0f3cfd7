use Rattle.once_machine.proofs.Law.Wakes.{handed_within}
use Rattle.once_machine.proofs.laws.wakes_answer_waits.Goals as goal

pub returns : goal.returns
returns c = handed_within
