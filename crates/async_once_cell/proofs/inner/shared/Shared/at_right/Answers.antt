-- The later poll of a holder begins with its init.
use Rattle.async_once_cell.proofs.Walk.Ways.{begun}
use Rattle.async_once_cell.proofs.inner.shared.Shared.at_right.Goals as goal

pub at_run-requires : goal.at_run-requires
at_run-requires g c = record { stands = begun g.W.TaskWaker.whose c.in-Quick.is c.requires.stands; fits = c.requires.fits }

pub at_run-requires-in-Queued : goal.at_run-requires-in-Queued
at_run-requires-in-Queued g c = record { stands = begun g.W.TaskWaker.whose c.in-Queued.is c.requires.stands; fits = c.requires.fits }
