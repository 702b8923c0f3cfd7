-- Counting in is its line of the table. If a queue was found, the release is the next, and then the task counts out.
use Rattle.std.proofs.Common.{◌∙◌, refl}
use Rattle.once_machine.specs.declared.waiters.Op.TheVariants.{Release}
use Rattle.once_machine.specs.Steps.{is_value}
use Rattle.async_once_cell.proofs.Walk.Ways.{added, onward, released}
use Rattle.async_once_cell.proofs.inner.shared.Shared.at_add_one.Goals as goal

pub lock_at_add_one-requires-clause-stands : goal.lock_at_add_one-requires-clause-stands
lock_at_add_one-requires-clause-stands g c =
    (added g.W.TaskWaker.whose c.args.ending c.requires.stands c.add_one.ensures.1 refl).stands

pub returns-in-None : goal.returns-in-None
returns-in-None g c =
    let led = added g.W.TaskWaker.whose c.args.ending c.requires.stands c.add_one.ensures.1 refl in
    record {
      cell = c.at_count_out-in-None.ensures.cell ∙ c.add_one.ensures.0;
      leads = onward g.W.TaskWaker.whose (onward g.W.TaskWaker.whose led c.in-None.ensures.leads) c.at_count_out-in-None.ensures.leads;
      stays = g.met.S.Side.stays_same _;
    }

pub returns-in-Some : goal.returns-in-Some
returns-in-Some g c =
    let led = added g.W.TaskWaker.whose c.args.ending c.requires.stands c.add_one.ensures.1 refl in
    let found = c.in-Some.ensures.leads in
    record {
      cell = c.at_count_out.ensures.cell ∙ c.add_one.ensures.0;
      leads = onward g.W.TaskWaker.whose (onward g.W.TaskWaker.whose led found.1)
          (onward g.W.TaskWaker.whose
          (released g.W.TaskWaker.whose c.args.ending c.in-Some.out (Release (is_value c.args.ending)) found.1.stands found.2 (g.met.S.TaskSide.tells.wake _ _ _ c.wake.ensures.did))
          c.at_count_out.ensures.leads);
      stays = c.wake.ensures.stays;
    }
