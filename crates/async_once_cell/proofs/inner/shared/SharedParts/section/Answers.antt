use Rattle.async_once_cell.proofs.Refusals.{refusable}
use Rattle.async_once_cell.proofs.inner.shared.SharedParts.section.Goals as goal

pub returns-clause-refuse : goal.returns-clause-refuse
returns-clause-refuse g c = refusable g.W.TaskWaker.whose _ _ c.lock_and_enter-answer.new.op _ _ c.requires.can c.lock_and_enter-answer.ensures.did
