use Rattle.std.proofs.Common.{◌≡◌, refl}
use Rattle.std.specs.Prelude.{◌^◌, if◌then◌else◌}
use Rattle.once_machine.specs.Table.{Fast}
use Rattle.async_once_cell.proofs.Acts.{word_keeps, word_told}
use Rattle.async_once_cell.proofs.inner.shared.SharedParts.fast.Goals as goal
use Rattle.async_once_cell.proofs.inner.shared.SharedParts.fast.Goals.{then-ready, else-ready}

pub compare_exchange-found-requires-clause-moves : goal.compare_exchange-found-requires-clause-moves
compare_exchange-found-requires-clause-moves g c =
    let to : c.if-ready.to ≡ (if c.args.ready then 2 ^ 63 else 0) = elim c.if-ready.branch [
      | then-ready w ↦ let on = w.if-ready.true in let is = w.to-is in rw on is
      | else-ready w ↦ let off = w.if-ready.false in let is = w.to-is in rw off is
    ] in
    rw (c.args.self.now.inner.now.word_is.1, to) (word_keeps _ _ c.args.self.now.hand.is_hand (Fast c.args.ready) tt c.requires)

pub returns : goal.returns
returns g c =
    let h = c.args.self.now.hand in
    let e = c.compare_exchange-found in
    (refl, word_told (h.seen.log, h.pens.held) (e.new.seen.log, e.new.pens.held) (Fast c.args.ready) e.result c.requires e.ensures.then)
