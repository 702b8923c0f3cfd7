use Rattle.once_machine.specs.Table.{Load}
use Rattle.async_once_cell.proofs.Acts.{word_keeps, word_told}
use Rattle.async_once_cell.proofs.inner.shared.Inner.loaded.Goals as goal

pub load-requires-clause-moves : goal.load-requires-clause-moves
load-requires-clause-moves g c = rw c.args.self.now.word_is.1 (word_keeps _ _ c.args.hand.now.is_hand Load tt c.requires.can)

pub returns-clause-did : goal.returns-clause-did
returns-clause-did g c =
    let h = c.args.hand.now in
    let e = c.load in
    word_told (h.seen.log, h.pens.held) (e.new.seen.log, e.new.pens.held) Load e.result c.requires.can e.ensures.then
