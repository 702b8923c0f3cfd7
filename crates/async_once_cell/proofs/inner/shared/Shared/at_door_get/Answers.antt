-- The poll goes on from where its steps under the lock led.
use Rattle.std.proofs.Common.{refl, subst}
use Rattle.async_once_cell.specs.Inner.Hands.{own_of}
use Rattle.async_once_cell.specs.Inner.Shares.{cell_of, own}
use Rattle.async_once_cell.specs.Inner.Ways.{LeadsBy, next_by}
use Rattle.async_once_cell.proofs.Promise.{fits_on}
use Rattle.async_once_cell.proofs.Walk.Ways.{onward}
use Rattle.async_once_cell.proofs.inner.shared.Shared.at_door_get.Goals as goal

pub returns : goal.returns
returns g c =
    record {
      cell = c.go_on_from.ensures.cell;
      leads = c.go_on_from.ensures.leads _ _ c.lock_at_door_get-reached.ensures.leads;
      stays = g.met.S.Side.stays_on _ _ _ c.lock_at_door_get-reached.ensures.stays c.go_on_from.ensures.stays;
    }

pub returns-in-NoQueue : goal.returns-in-NoQueue
returns-in-NoQueue g c =
    let h = c.lock_at_door_get-reached in
    record {
      cell = c.at_door_put.ensures.cell;
      leads = onward g.W.TaskWaker.whose
          (subst (λ r. LeadsBy g.W.TaskWaker.whose (g.S.TaskSide.state c.args.side.now) (own c.args.self.now) (next_by r) (g.S.TaskSide.state h.new.side) (own_of h.new.hand))
          c.in-NoQueue.is h.ensures.leads)
          c.at_door_put.ensures.leads;
      stays = g.met.S.Side.stays_on _ _ _ c.lock_at_door_get-reached.ensures.stays c.at_door_put.ensures.stays;
    }

pub at_door_put-requires-clause-fits : goal.at_door_put-requires-clause-fits
at_door_put-requires-clause-fits g c =
    fits_on g.V.Fits.fits g.met.S.TaskSide.hands_on g.met.S.TaskSide.slot_on {c = cell_of c.args.self.now} c.requires.fits
    c.lock_at_door_get-reached.ensures.stays refl

pub go_on_from-requires : goal.go_on_from-requires
go_on_from-requires g c = record {
  stands = c.lock_at_door_get-reached.ensures.leads.stands;
  fits = fits_on g.V.Fits.fits g.met.S.TaskSide.hands_on g.met.S.TaskSide.slot_on {c = cell_of c.args.self.now} c.requires.fits c.lock_at_door_get-reached.ensures.stays refl;
}
