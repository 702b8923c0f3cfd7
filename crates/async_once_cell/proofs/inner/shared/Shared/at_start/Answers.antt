-- The load is its line of the table. If the word is ready, the init is closed, and the poll ends. Else the poll goes on
-- at the place to which the word leads.
use Rattle.std.proofs.Common.{◌≡◌, true, false, refl, sym, ap, ◌∙◌}
use Rattle.once_machine.specs.Word.{Flags, flags_of, is_zero}
use Rattle.once_machine.specs.Table.{after_start, closing_end, next_at}
use Rattle.once_machine.specs.declared.step.Place.TheVariants.{DoorGet as AtDoorGet, TryQuick as AtTryQuick}
use Rattle.once_machine.specs.declared.step.Ending.TheVariants.{Value as EndValue}
use Rattle.async_once_cell.proofs.Walk.Ways.{onward, started}
use Rattle.async_once_cell.proofs.inner.shared.Shared.at_start.Goals as goal

pub returns-then-is_ready : goal.returns-then-is_ready
returns-then-is_ready g c =
    let word = flags_of c.load.result in
    let ready : word.ready ≡ true = ap (λ (w : Flags). w.ready) (sym c.from_bits-word.ensures) ∙ sym c.is_ready.ensures ∙ c.if-is_ready.true in
    record {
      cell = c.load.ensures.0;
      leads = started g.W.TaskWaker.whose word (closing_end EndValue) c.requires.stands c.load.ensures.1 (ap (λ b. after_start b (is_zero word)) ready)
          (g.met.S.TaskSide.tells.close _ _ c.close.ensures.did);
      stays = c.close.ensures.stays;
    }

pub returns-then-not-is_new : goal.returns-then-not-is_new
returns-then-not-is_new g c =
    let word = flags_of c.load.result in
    let unset : word.ready ≡ false = ap (λ (w : Flags). w.ready) (sym c.from_bits-word.ensures) ∙ sym c.is_ready.ensures ∙ c.if-is_ready.false in
    let met : is_zero word ≡ false = ap is_zero (sym c.from_bits-word.ensures) ∙ sym c.is_new.ensures ∙ c.if-not-is_new.true in
    record {
      cell = c.at_door_get.ensures.cell ∙ c.load.ensures.0;
      leads = onward g.W.TaskWaker.whose
          (started g.W.TaskWaker.whose word (next_at AtDoorGet) c.requires.stands c.load.ensures.1
          (ap (λ b. after_start b (is_zero word)) unset ∙ ap (after_start false) met) refl)
          c.at_door_get.ensures.leads;
      stays = c.at_door_get.ensures.stays;
    }

pub returns : goal.returns
returns g c =
    let word = flags_of c.load.result in
    let unset : word.ready ≡ false = ap (λ (w : Flags). w.ready) (sym c.from_bits-word.ensures) ∙ sym c.is_ready.ensures ∙ c.if-is_ready.false in
    let alone : is_zero word ≡ true = ap is_zero (sym c.from_bits-word.ensures) ∙ sym c.is_new.ensures ∙ c.if-not-is_new.false in
    record {
      cell = c.at_try_quick.ensures.cell ∙ c.load.ensures.0;
      leads = onward g.W.TaskWaker.whose
          (started g.W.TaskWaker.whose word (next_at AtTryQuick) c.requires.stands c.load.ensures.1
          (ap (λ b. after_start b (is_zero word)) unset ∙ ap (after_start false) alone) refl)
          c.at_try_quick.ensures.leads;
      stays = c.at_try_quick.ensures.stays;
    }

pub at_door_get-requires-clause-stands : goal.at_door_get-requires-clause-stands
at_door_get-requires-clause-stands g c =
    let word = flags_of c.load.result in
    let unset : word.ready ≡ false = ap (λ (w : Flags). w.ready) (sym c.from_bits-word.ensures) ∙ sym c.is_ready.ensures ∙ c.if-is_ready.false in
    let met : is_zero word ≡ false = ap is_zero (sym c.from_bits-word.ensures) ∙ sym c.is_new.ensures ∙ c.if-not-is_new.true in
    (started g.W.TaskWaker.whose word (next_at AtDoorGet) c.requires.stands c.load.ensures.1
    (ap (λ b. after_start b (is_zero word)) unset ∙ ap (after_start false) met) refl).stands

pub at_try_quick-requires-clause-stands : goal.at_try_quick-requires-clause-stands
at_try_quick-requires-clause-stands g c =
    let word = flags_of c.load.result in
    let unset : word.ready ≡ false = ap (λ (w : Flags). w.ready) (sym c.from_bits-word.ensures) ∙ sym c.is_ready.ensures ∙ c.if-is_ready.false in
    let alone : is_zero word ≡ true = ap is_zero (sym c.from_bits-word.ensures) ∙ sym c.is_new.ensures ∙ c.if-not-is_new.false in
    (started g.W.TaskWaker.whose word (next_at AtTryQuick) c.requires.stands c.load.ensures.1
    (ap (λ b. after_start b (is_zero word)) unset ∙ ap (after_start false) alone) refl).stands
