-- The later poll of a waiter begins at its load, by whichever ticket it has.
use Rattle.async_once_cell.proofs.Walk.Ways.{begun}
use Rattle.async_once_cell.proofs.inner.shared.Shared.later.Goals.{in-Listed, in-Unlisted}
use Rattle.async_once_cell.proofs.inner.shared.Shared.later.Goals as goal

pub at_wait_load-requires : goal.at_wait_load-requires
at_wait_load-requires g c = elim c.match-idle.branch [
  | in-Listed w ↦ rw w.ticket-is (record { stands = begun g.W.TaskWaker.whose w.in-Listed.is c.requires.stands; fits = c.requires.fits })
  | in-Unlisted w ↦ rw w.ticket-is (record { stands = begun g.W.TaskWaker.whose w.in-Unlisted.is c.requires.stands; fits = c.requires.fits })
]
