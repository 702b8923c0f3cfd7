-- A task that loads a ready word has seen the Fill, so the slot is written.
use Rattle.std.proofs.Common.{◌≡◌, true, arith}
use Rattle.once_machine.specs.Word.{flags_of}
use Rattle.async_once_cell.proofs.Moments.Moves.Slots.{filled_sure}
use Rattle.async_once_cell.proofs.inner.shared.Inner.look.Goals as goal

pub get-requires-clause-sure : goal.get-requires-clause-sure
get-requires-clause-sure g c =
    let ready : (flags_of c.load.result).ready ≡ true = grind (arith, c.if-is_ready.true, c.is_ready.ensures, c.from_bits.ensures) in
    rw c.args.self.now.slot_is.1 (filled_sure c.load.new.seen.log (c.load.ensures.filled ready))
