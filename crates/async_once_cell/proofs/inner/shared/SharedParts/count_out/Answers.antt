use Rattle.std.proofs.Common.{refl, subst}
use Rattle.once_machine.specs.Table.{CountOut}
use Rattle.once_machine.specs.Words.{IsFound}
use Rattle.async_once_cell.proofs.Acts.{word_keeps, word_told}
use Rattle.async_once_cell.proofs.inner.shared.SharedParts.count_out.Goals as goal

pub fetch_sub-found-requires-clause-moves : goal.fetch_sub-found-requires-clause-moves
fetch_sub-found-requires-clause-moves g c = rw c.args.self.now.inner.now.word_is.1 (word_keeps _ _ c.args.self.now.hand.is_hand CountOut tt c.requires)

pub overflow_sub-result : goal.overflow_sub-result
overflow_sub-result g c = subst (λ d. IsFound d c.fetch_sub-found.result) c.requires c.fetch_sub-found.ensures.then.1

pub returns : goal.returns
returns g c =
    let h = c.args.self.now.hand in
    let e = c.fetch_sub-found in
    (refl, word_told (h.seen.log, h.pens.held) (e.new.seen.log, e.new.pens.held) CountOut e.result c.requires e.ensures.then)
