use Rattle.std.proofs.Common.{◌≡◌, ◌+◌, length, sym, ◌∙◌, arith}
use Rattle.pagebook_uses.proofs.Rally.Steps.{looks, pings}
use Rattle.pagebook_uses.proofs.turns.Pinger.hit.Goals as goal

pub load-others-requires-clause-moves : goal.load-others-requires-clause-moves
load-others-requires-clause-moves c =
    let me = c.args.self.now in
    rw (c.args.table.now.keys.1) (looks me.seen.log me.pens.held me.hits (sym me.held))

-- as many hits were seen as both have, since the other's word was this player's
pub store-requires-clause-moves : goal.store-requires-clause-moves
store-requires-clause-moves c =
    let me = c.args.self.now in
    let look = c.load-others in
    let even : look.result ≡ me.hits = grind (arith, c.if-others-hits.false) in
    let saw : length look.new.seen.log ≡ me.hits + me.hits = look.ensures.then.1 even in
    rw (c.args.table.now.keys.0)
    (pings look.new.seen.log look.new.pens.held me.hits _ saw (omega arith) (sym (look.ensures.then.0 ∙ me.held)))
