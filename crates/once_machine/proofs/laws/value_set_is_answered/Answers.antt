use Rattle.once_machine.proofs.Law.Rights.{value_lasts}
use Rattle.once_machine.proofs.Law.Crowded.{value_set}
use Rattle.once_machine.proofs.laws.value_set_is_answered.Goals as goal

pub returns : goal.returns
returns c = record { answered = value_set; lasts = value_lasts }
