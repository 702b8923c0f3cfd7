-- Counting out is its line of the table.
use Rattle.std.proofs.Common.{◌≡◌, true, false, refl, sym, ap, ◌∙◌}
use Rattle.once_machine.specs.Word.{flags_of, is_ready_bit}
use Rattle.once_machine.specs.Table.{after_count_out, next_at, next_end}
use Rattle.once_machine.specs.declared.step.Place.TheVariants.{DoorTake as AtDoorTake}
use Rattle.async_once_cell.proofs.Walk.Ways.{counted_out, onward}
use Rattle.async_once_cell.proofs.inner.shared.Shared.at_count_out.Goals as goal

pub returns : goal.returns
returns g c =
    let e = c.args.ending in
    let word = flags_of c.count_out.result in
    let alone : is_ready_bit word ≡ false = ap is_ready_bit (sym c.from_bits.ensures) ∙ sym c.is_ready_alone.ensures ∙ c.if-is_ready_alone.false in
    record {
      cell = c.count_out.ensures.0;
      leads = counted_out g.W.TaskWaker.whose e word (next_end e) c.requires.stands c.count_out.ensures.1 (ap (λ b. after_count_out b e) alone) refl;
      stays = g.met.S.Side.stays_same _;
    }

pub at_door_take-requires : goal.at_door_take-requires
at_door_take-requires g c =
    let e = c.args.ending in
    let word = flags_of c.count_out.result in
    let alone : is_ready_bit word ≡ true = ap is_ready_bit (sym c.from_bits.ensures) ∙ sym c.is_ready_alone.ensures ∙ c.if-is_ready_alone.true in
    record {
      stands = (counted_out g.W.TaskWaker.whose e word (next_at (AtDoorTake e)) c.requires.stands c.count_out.ensures.1 (ap (λ b. after_count_out b e) alone) refl).stands;
    }

pub returns-then-is_ready_alone : goal.returns-then-is_ready_alone
returns-then-is_ready_alone g c =
    let e = c.args.ending in
    let word = flags_of c.count_out.result in
    let alone : is_ready_bit word ≡ true = ap is_ready_bit (sym c.from_bits.ensures) ∙ sym c.is_ready_alone.ensures ∙ c.if-is_ready_alone.true in
    record {
      cell = c.at_door_take.ensures.cell ∙ c.count_out.ensures.0;
      leads = onward g.W.TaskWaker.whose
          (counted_out g.W.TaskWaker.whose e word (next_at (AtDoorTake e)) c.requires.stands c.count_out.ensures.1 (ap (λ b. after_count_out b e) alone) refl)
          c.at_door_take.ensures.leads;
      stays = c.at_door_take.ensures.stays;
    }
