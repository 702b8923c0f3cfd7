use Rattle.once_machine.proofs.Law.Answered.{set_answered}
use Rattle.once_machine.proofs.laws.set_value_is_answered_at_once.Goals as goal

pub returns : goal.returns
returns c = set_answered
