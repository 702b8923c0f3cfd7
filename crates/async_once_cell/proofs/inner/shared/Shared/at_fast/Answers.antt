-- The fast release is its line of the table.
use Rattle.std.proofs.Common.{◌≡◌, true, false, refl, sym, ap, ◌∙◌}
use Rattle.once_machine.specs.Steps.{is_value}
use Rattle.once_machine.specs.Table.{after_fast, next_at, next_end}
use Rattle.once_machine.specs.declared.step.Place.TheVariants.{AddOne as AtAddOne, DoorTake as AtDoorTake}
use Rattle.async_once_cell.proofs.Walk.Ways.{freed, onward}
use Rattle.async_once_cell.proofs.inner.shared.Shared.at_fast.Goals as goal

pub returns-then-not-fast : goal.returns-then-not-fast
returns-then-not-fast g c =
    let e = c.args.ending in
    let won = c.fast.result in
    let at = freed g.W.TaskWaker.whose e c.is_value-filled.result won (next_at (AtAddOne e))
    c.requires.stands c.fast.ensures.1 c.is_value-filled.ensures (ap (λ b. after_fast b (is_value e) e) c.if-not-fast.true) refl in
    record {
      cell = c.at_add_one.ensures.cell ∙ c.fast.ensures.0;
      leads = onward g.W.TaskWaker.whose at c.at_add_one.ensures.leads;
      stays = c.at_add_one.ensures.stays;
    }

pub returns-then-filled : goal.returns-then-filled
returns-then-filled g c =
    let e = c.args.ending in
    let won = c.fast.result in
    let fills : is_value e ≡ true = sym c.is_value-filled.ensures ∙ c.if-filled.true in
    let at = freed g.W.TaskWaker.whose e c.is_value-filled.result won (next_at (AtDoorTake e))
    c.requires.stands c.fast.ensures.1 c.is_value-filled.ensures (λ i. after_fast (c.if-not-fast.false i) (fills i) e) refl in
    record {
      cell = c.at_door_take.ensures.cell ∙ c.fast.ensures.0;
      leads = onward g.W.TaskWaker.whose at c.at_door_take.ensures.leads;
      stays = g.met.S.Side.stays_same _;
    }

pub returns : goal.returns
returns g c =
    let e = c.args.ending in
    let won = c.fast.result in
    let fills : is_value e ≡ false = sym c.is_value-filled.ensures ∙ c.if-filled.false in
    record {
      cell = c.fast.ensures.0;
      leads = freed g.W.TaskWaker.whose e c.is_value-filled.result won (next_end e)
          c.requires.stands c.fast.ensures.1 c.is_value-filled.ensures (λ i. after_fast (c.if-not-fast.false i) (fills i) e) refl;
      stays = g.met.S.Side.stays_same _;
    }

pub at_add_one-requires : goal.at_add_one-requires
at_add_one-requires g c =
    let e = c.args.ending in
    record {
      stands = (freed g.W.TaskWaker.whose e c.is_value-filled.result c.fast.result (next_at (AtAddOne e))
          c.requires.stands c.fast.ensures.1 c.is_value-filled.ensures (ap (λ b. after_fast b (is_value e) e) c.if-not-fast.true) refl).stands;
    }

pub at_door_take-requires : goal.at_door_take-requires
at_door_take-requires g c =
    let e = c.args.ending in
    let fills : is_value e ≡ true = sym c.is_value-filled.ensures ∙ c.if-filled.true in
    record {
      stands = (freed g.W.TaskWaker.whose e c.is_value-filled.result c.fast.result (next_at (AtDoorTake e))
          c.requires.stands c.fast.ensures.1 c.is_value-filled.ensures (λ i. after_fast (c.if-not-fast.false i) (fills i) e) refl).stands;
    }
