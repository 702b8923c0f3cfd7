use Rattle.once_machine.proofs.Law.Freed.{error_empties}
use Rattle.once_machine.proofs.Law.Rights.{own_error}
use Rattle.once_machine.proofs.laws.error_is_ones_own.Goals as goal

pub returns : goal.returns
returns c = record { own = own_error; empty = error_empties }
