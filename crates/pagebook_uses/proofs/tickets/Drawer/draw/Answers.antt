use Rattle.std.proofs.Common.{sym, ◌∙◌, arith}
use Rattle.pagebook_uses.proofs.Draw.Steps.{looks, draws}
use Rattle.pagebook_uses.proofs.tickets.Drawer.draw.Goals as goal

pub load-next-requires-clause-moves : goal.load-next-requires-clause-moves
load-next-requires-clause-moves c =
    let me = c.self.inside in
    rw (c.args.counter.now.word_is) (looks me.seen.log me.pens.held)

pub compare_exchange-found-requires-clause-moves : goal.compare_exchange-found-requires-clause-moves
compare_exchange-found-requires-clause-moves c =
    let page = c.self.invariant.1 in
    let look = c.load-next in
    rw (c.args.counter.now.word_is)
    (draws look.new.seen.log look.new.pens.held page.0 look.result _ page.1 (omega arith)
    (sym (look.ensures.then ∙ page.2)))
