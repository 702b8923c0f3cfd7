-- Each listing is compared with those before it, which are as they were.
use Rattle.std.proofs.Common.{◌≡◌, ◌-◌, suc, arith}
use mathlib.Core.Logic.{∥∥₁_map}
use Rattle.once_machine.proofs.Listing.AllOther.{hands_apart}
use Rattle.once_machine.proofs.Listing.Repeats.{handed_keeps, handed_clears}
use Rattle.once_machine.proofs.waiters.once_each.Goals as goal

pub loop-end-preserved-then-repeats : goal.loop-end-preserved-then-repeats
loop-end-preserved-then-repeats g c =
    let i = c.loop-end.end - 1 in
    let next : c.loop-end.end ≡ suc i = omega arith in
    handed_clears g.W.WakerId.tells_same g.W.WakerId.tells_other i c.args.listings.now.items c.loop-end.listings.items c.index.result.now c.index_mut.result.now
    (rw next at c.loop-end.invariant) c.index.ensures c.index_mut.ensures.value (rw c.deref.ensures.value at (c.repeats.ensures.yes c.if-repeats.true))

pub loop-end-preserved : goal.loop-end-preserved
loop-end-preserved g c =
    let i = c.loop-end.end - 1 in
    let next : c.loop-end.end ≡ suc i = omega arith in
    handed_keeps g.W.WakerId.tells_same g.W.WakerId.tells_other i c.args.listings.now.items c.loop-end.listings.items c.index.result.now
    (rw next at c.loop-end.invariant) c.index.ensures (rw c.deref.ensures.value at (c.repeats.ensures.no c.if-repeats.false))

pub returns-then-not-mixed : goal.returns-then-not-mixed
returns-then-not-mixed g c = ∥∥₁_map (c.requires.apart c.if-not-mixed.true) (hands_apart g.W.WakerId.tells_same g.W.WakerId.tells_other c.args.listings.now.items)
