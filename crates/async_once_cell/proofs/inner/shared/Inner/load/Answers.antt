-- A look keeps the rule of the book.
use Rattle.async_once_cell.proofs.Values.{look_keeps}
use Rattle.async_once_cell.proofs.inner.shared.Inner.load.Goals as goal

pub load-requires-clause-moves : goal.load-requires-clause-moves
load-requires-clause-moves g c = rw (c.args.self.now.word_is.1, c.no_pens-none.ensures.1) (look_keeps _)
