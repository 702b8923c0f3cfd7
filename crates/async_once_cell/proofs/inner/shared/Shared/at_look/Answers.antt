-- The poll goes on from where its steps under the lock led.
use Rattle.std.proofs.Common.{refl}
use Rattle.async_once_cell.specs.Inner.Shares.{cell_of}
use Rattle.async_once_cell.proofs.Promise.{fits_on}
use Rattle.async_once_cell.proofs.inner.shared.Shared.at_look.Goals as goal

pub returns : goal.returns
returns g c =
    record {
      cell = c.go_on_from.ensures.cell;
      leads = c.go_on_from.ensures.leads _ _ c.lock_at_look-reached.ensures.leads;
      stays = g.met.S.Side.stays_on _ _ _ c.lock_at_look-reached.ensures.stays c.go_on_from.ensures.stays;
    }

pub go_on_from-requires-clause-fits : goal.go_on_from-requires-clause-fits
go_on_from-requires-clause-fits g c = fits_on g.V.Fits.fits g.met.S.TaskSide.hands_on g.met.S.TaskSide.slot_on {c = cell_of c.args.self.now} c.requires.fits c.lock_at_look-reached.ensures.stays refl
