use Rattle.std.proofs.Common.{◌≡◌, ◌+◌, length, suc, sym, ◌∙◌, arith}
use Rattle.pagebook_uses.proofs.Rally.Steps.{looks_back, pongs}
use Rattle.pagebook_uses.proofs.turns.Ponger.hit.Goals as goal

pub load-others-requires-clause-moves : goal.load-others-requires-clause-moves
load-others-requires-clause-moves c =
    let me = c.args.self.now in
    rw (c.args.table.now.keys.0) (looks_back me.seen.log me.pens.held me.hits (sym me.held))

-- the other hit once more, since its word was not this player's
pub store-requires-clause-moves : goal.store-requires-clause-moves
store-requires-clause-moves c =
    let me = c.args.self.now in
    let look = c.load-others in
    let odd : (look.result ≡ me.hits → ⊥) = λ e. grind (arith, c.if-others-hits.false, e) in
    let saw : length look.new.seen.log ≡ suc (me.hits + me.hits) = look.ensures.then.1 odd in
    rw (c.args.table.now.keys.1)
    (pongs look.new.seen.log look.new.pens.held me.hits _ saw (omega arith) (sym (look.ensures.then.0 ∙ me.held)))
