use Rattle.once_machine.proofs.Law.Rights.{dropped_holder}
use Rattle.once_machine.proofs.laws.dropped_holder_frees.Goals as goal

pub returns : goal.returns
returns c = record { ended = λ kind limit t h r. r.0.1; during = dropped_holder }
