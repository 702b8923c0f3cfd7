use Rattle.std.proofs.Common.{refl}
use Rattle.once_machine.specs.Table.{AddOne}
use Rattle.async_once_cell.proofs.Acts.{word_keeps, word_told}
use Rattle.async_once_cell.proofs.inner.shared.SharedParts.add_one.Goals as goal

pub fetch_add-requires-clause-moves : goal.fetch_add-requires-clause-moves
fetch_add-requires-clause-moves g c = rw c.args.self.now.inner.now.word_is.1 (word_keeps _ _ c.args.self.now.hand.is_hand AddOne tt c.requires)

pub returns : goal.returns
returns g c =
    let h = c.args.self.now.hand in
    let e = c.fetch_add in
    (refl, word_told (h.seen.log, h.pens.held) (e.new.seen.log, e.new.pens.held) AddOne e.result c.requires e.ensures.then)
