-- The look at the door is its line of the table, and the steps of a waiter follow if a queue stands there.
use Rattle.std.proofs.Common.{refl, None, Some}
use Rattle.once_machine.specs.Table.{Got, next_at}
use Rattle.once_machine.specs.declared.step.Place.TheVariants.{CountIn as AtCountIn, DoorGet as AtDoorGet, DoorPut as AtDoorPut}
use Rattle.async_once_cell.proofs.Walk.Ways.{led, onward}
use Rattle.async_once_cell.proofs.inner.shared.Inner.lock_at_door_get.Goals as goal

pub returns-then-not-get-clause-leads : goal.returns-then-not-get-clause-leads
returns-then-not-get-clause-leads g c =
    led g.W.TaskWaker.whose AtDoorGet (Got None) (next_at AtDoorPut) refl refl (None, refl) c.requires.stands c.if-not-get.ensures.did refl refl

pub returns-clause-leads : goal.returns-clause-leads
returns-clause-leads g c =
    onward g.W.TaskWaker.whose
    (led g.W.TaskWaker.whose AtDoorGet (Got (Some tt)) (next_at (AtCountIn tt)) refl refl (Some tt, refl) c.requires.stands c.if-not-get.ensures.did refl refl)
    c.locked_count_in.ensures.leads
