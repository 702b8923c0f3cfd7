use Rattle.std.proofs.Common.{rules}
use Rattle.pagebook_uses.proofs.Medal.Steps.{comes}
use Rattle.pagebook_uses.proofs.first.Line.come.Goals as goal

pub swap-found-requires-clause-moves : goal.swap-found-requires-clause-moves
swap-found-requires-clause-moves c = rw (c.args.self.now.word_is) (comes c.again-seen.result.log c.no_pens-pens.result.held)

pub invariant_of-result : goal.invariant_of-result
invariant_of-result c = search rules
