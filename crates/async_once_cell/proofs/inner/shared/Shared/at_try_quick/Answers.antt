-- The quick claim is its line of the table. If it was won, the init is polled. Else the poll goes on at the door.
use Rattle.std.proofs.Common.{◌∙◌, refl, ap, None}
use Rattle.once_machine.specs.Table.{after_quick, next_at}
use Rattle.once_machine.specs.declared.step.Place.TheVariants.{DoorGet as AtDoorGet, Run as AtRun}
use Rattle.async_once_cell.proofs.Walk.Ways.{claimed, onward}
use Rattle.async_once_cell.proofs.inner.shared.Shared.at_try_quick.Goals as goal

pub returns : goal.returns
returns g c =
    record {
      cell = c.at_run.ensures.cell ∙ c.quick.ensures.0;
      leads = onward g.W.TaskWaker.whose
          (claimed g.W.TaskWaker.whose c.quick.result (next_at (AtRun None)) c.requires.stands c.quick.ensures.1 (ap after_quick c.if-not-quick.false) refl)
          c.at_run.ensures.leads;
      stays = c.at_run.ensures.stays;
    }

pub returns-then-not-quick : goal.returns-then-not-quick
returns-then-not-quick g c =
    record {
      cell = c.at_door_get.ensures.cell ∙ c.quick.ensures.0;
      leads = onward g.W.TaskWaker.whose
          (claimed g.W.TaskWaker.whose c.quick.result (next_at AtDoorGet) c.requires.stands c.quick.ensures.1 (ap after_quick c.if-not-quick.true) refl)
          c.at_door_get.ensures.leads;
      stays = c.at_door_get.ensures.stays;
    }
