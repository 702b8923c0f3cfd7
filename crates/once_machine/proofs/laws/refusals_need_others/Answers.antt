use Rattle.once_machine.proofs.Law.Crowded.{memory_met, full_waits}
use Rattle.once_machine.proofs.laws.refusals_need_others.Goals as goal

pub returns : goal.returns
returns c = record { memory = memory_met; full = full_waits }
