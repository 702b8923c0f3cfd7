-- The load is its line of the table. If the word is ready, the init is closed, and the task counts out. Else it looks.
use Rattle.std.proofs.Common.{◌≡◌, true, false, refl, sym, ap, ◌∙◌}
use Rattle.once_machine.specs.Word.{Flags, flags_of}
use Rattle.once_machine.specs.Table.{after_load, closing_at, next_at}
use Rattle.once_machine.specs.declared.step.Place.TheVariants.{CountOut as AtCountOut, Look as AtLook}
use Rattle.once_machine.specs.declared.step.Ending.TheVariants.{Value as EndValue}
use Rattle.async_once_cell.proofs.Walk.Ways.{loaded, onward}
use Rattle.async_once_cell.proofs.inner.shared.Shared.at_wait_load.Goals as goal

pub returns-then-is_ready : goal.returns-then-is_ready
returns-then-is_ready g c =
    let word = flags_of c.load.result in
    let ready : word.ready ≡ true = ap (λ (w : Flags). w.ready) (sym c.from_bits.ensures) ∙ sym c.is_ready.ensures ∙ c.if-is_ready.true in
    record {
      cell = c.at_count_out.ensures.cell ∙ c.load.ensures.0;
      leads = onward g.W.TaskWaker.whose
          (loaded g.W.TaskWaker.whose c.args.ticket word (closing_at (AtCountOut EndValue)) c.requires.stands c.load.ensures.1
          (ap (λ b. after_load b tt c.args.ticket) ready) (g.met.S.TaskSide.tells.close _ _ c.close.ensures.did))
          c.at_count_out.ensures.leads;
      stays = c.close.ensures.stays;
    }

pub returns : goal.returns
returns g c =
    let word = flags_of c.load.result in
    let unset : word.ready ≡ false = ap (λ (w : Flags). w.ready) (sym c.from_bits.ensures) ∙ sym c.is_ready.ensures ∙ c.if-is_ready.false in
    record {
      cell = c.at_look.ensures.cell ∙ c.load.ensures.0;
      leads = onward g.W.TaskWaker.whose
          (loaded g.W.TaskWaker.whose c.args.ticket word (next_at (AtLook tt c.args.ticket)) c.requires.stands c.load.ensures.1
          (ap (λ b. after_load b tt c.args.ticket) unset) refl)
          c.at_look.ensures.leads;
      stays = c.at_look.ensures.stays;
    }
