use Rattle.std.proofs.Common.{refl}
use Rattle.once_machine.specs.Table.{Quick}
use Rattle.async_once_cell.proofs.Acts.{word_keeps, word_told}
use Rattle.async_once_cell.proofs.inner.shared.SharedParts.quick.Goals as goal

pub compare_exchange-found-requires-clause-moves : goal.compare_exchange-found-requires-clause-moves
compare_exchange-found-requires-clause-moves g c = rw c.args.self.now.inner.now.word_is.1 (word_keeps _ _ c.args.self.now.hand.is_hand Quick tt c.requires)

pub returns : goal.returns
returns g c =
    let h = c.args.self.now.hand in
    let e = c.compare_exchange-found in
    (refl, word_told (h.seen.log, h.pens.held) (e.new.seen.log, e.new.pens.held) Quick e.result c.requires e.ensures.then)
