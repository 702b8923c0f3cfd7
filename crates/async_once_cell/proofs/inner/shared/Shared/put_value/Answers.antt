use Rattle.async_once_cell.proofs.Values.{put_keeps, write_keeps}
use Rattle.async_once_cell.proofs.inner.shared.Shared.put_value.Goals as goal

pub put-requires-clause-begins : goal.put-requires-clause-begins
put-requires-clause-begins g c = rw c.args.self.now.inner.now.slot_is.1 (write_keeps _ _ c.args.self.now.hand.is_hand c.requires.can)

pub put-requires-clause-fills : goal.put-requires-clause-fills
put-requires-clause-fills g c =
    let h = c.args.self.now.hand in
    λ w b. rw c.args.self.now.inner.now.slot_is.1 (put_keeps (h.seen.log, h.pens.held) w c.requires.can b)
