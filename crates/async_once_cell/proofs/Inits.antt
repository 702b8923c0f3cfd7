-- What is told of an init that was polled on is told of it as it was before.
use Rattle.std.proofs.Common.{Option, Result, Ok, Err}
use Rattle.once_machine.specs.declared.step.Ending.{Ending}
use Rattle.async_once_cell.specs.Inits.{GivesNoOther, TellsOwn}

pub tells_on : {I X A : Type 0} (may_fail : I → X → Type 0) (ending : X → Ending) (old new : Option I) → GivesNoOther may_fail old new
    → (r : Result A X) → TellsOwn may_fail ending new r → TellsOwn may_fail ending old r
tells_on may_fail ending old new same (Ok y) t = t
tells_on may_fail ending old new same (Err x) t = λ e. same x (t e)
