use Rattle.once_machine.proofs.Law.GoesOn.{pending_reason}
use Rattle.once_machine.proofs.laws.pending_has_a_reason.Goals as goal

pub returns : goal.returns
returns c = pending_reason
