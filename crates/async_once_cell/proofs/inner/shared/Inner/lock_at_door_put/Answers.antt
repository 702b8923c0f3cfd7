-- The queue that is put to the door is its line of the table, and the steps of a waiter follow.
use Rattle.std.proofs.Common.{refl, Some}
use Rattle.once_machine.specs.Table.{PutQueue, next_at}
use Rattle.once_machine.specs.declared.step.Place.TheVariants.{CountIn as AtCountIn, DoorPut as AtDoorPut}
use Rattle.async_once_cell.proofs.Walk.Ways.{led, onward}
use Rattle.async_once_cell.proofs.inner.shared.Inner.lock_at_door_put.Goals as goal

pub returns-clause-leads : goal.returns-clause-leads
returns-clause-leads g c =
    onward g.W.TaskWaker.whose
    (led g.W.TaskWaker.whose AtDoorPut (PutQueue (Some tt)) (next_at (AtCountIn tt)) refl refl (Some tt, refl) c.requires.stands c.put-spare.ensures.did refl refl)
    c.locked_count_in.ensures.leads
