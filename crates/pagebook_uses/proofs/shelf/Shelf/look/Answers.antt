use Rattle.std.proofs.Common.{sym, rules}
use Rattle.pagebook_uses.proofs.Fill.Steps.{looks}
use Rattle.pagebook_uses.proofs.shelf.Shelf.look.Goals as goal

pub load-requires-clause-moves : goal.load-requires-clause-moves
load-requires-clause-moves g c =
    rw c.args.self.now.ready_is (looks c.args.seen.now.log c.no_pens-none.result.held (sym c.no_pens-none.ensures.1))

pub get-requires-clause-sure : goal.get-requires-clause-sure
get-requires-clause-sure g c = search rules
