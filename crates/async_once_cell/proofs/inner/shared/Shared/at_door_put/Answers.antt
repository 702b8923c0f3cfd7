-- A refusal of the queue's memory is its line of the table. Else the poll goes on from where its steps under the lock led.
use Rattle.std.proofs.Common.{refl, None}
use Rattle.once_machine.specs.Table.{PutQueue, closing_end}
use Rattle.once_machine.specs.declared.step.Place.TheVariants.{DoorPut as AtDoorPut}
use Rattle.once_machine.specs.declared.step.Ending.TheVariants.{Memory as EndMemory}
use Rattle.async_once_cell.specs.Inner.Shares.{cell_of}
use Rattle.async_once_cell.proofs.Promise.{fits_on}
use Rattle.async_once_cell.proofs.Walk.Ways.{led}
use Rattle.async_once_cell.proofs.inner.shared.Shared.at_door_put.Goals as goal

pub returns-in-Err : goal.returns-in-Err
returns-in-Err g c =
    record {
      cell = refl;
      leads = led g.W.TaskWaker.whose AtDoorPut (PutQueue None) (closing_end EndMemory) refl refl (None, refl) c.requires.stands (0, c.unput.ensures.did)
          refl (g.met.S.TaskSide.tells.close _ _ c.close.ensures.did);
      stays = c.close.ensures.stays;
    }

pub returns-in-Ok : goal.returns-in-Ok
returns-in-Ok g c =
    record {
      cell = c.go_on_from.ensures.cell;
      leads = c.go_on_from.ensures.leads _ _ c.lock_at_door_put-reached.ensures.leads;
      stays = g.met.S.Side.stays_on _ _ _ c.lock_at_door_put-reached.ensures.stays c.go_on_from.ensures.stays;
    }

pub go_on_from-requires-clause-fits : goal.go_on_from-requires-clause-fits
go_on_from-requires-clause-fits g c =
    fits_on g.V.Fits.fits g.met.S.TaskSide.hands_on g.met.S.TaskSide.slot_on {c = cell_of c.args.self.now} c.requires.fits
    c.lock_at_door_put-reached.ensures.stays refl
