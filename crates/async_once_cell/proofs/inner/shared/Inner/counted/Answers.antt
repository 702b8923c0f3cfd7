-- A task that was not counted in for another's sake stands where it stood, so it may try again.
use Rattle.std.proofs.Common.{[], ap, ◌∙◌}
use Rattle.once_machine.specs.Book.{TaskState}
use Rattle.once_machine.specs.Table.{counted}
use Rattle.async_once_cell.specs.Inner.Page.{call_in}
use Rattle.async_once_cell.proofs.Desks.{went_after}
use Rattle.async_once_cell.proofs.inner.shared.Inner.counted.Goals as goal

pub counted_again-requires-clause-can : goal.counted_again-requires-clause-can
counted_again-requires-clause-can g c = ap (λ (t : TaskState). call_in t.step) c.in_default.ensures.did.task ∙ c.requires.can

pub returns-clause-did : goal.returns-clause-did
returns-clause-did g c = went_after (counted c.counted_again.result) [] _ _ _ c.in_default.ensures.did c.counted_again.ensures.did
