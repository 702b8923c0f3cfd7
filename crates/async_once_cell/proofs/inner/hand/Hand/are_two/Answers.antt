use Rattle.async_once_cell.proofs.TwoTasks.{apart_notes}
use Rattle.async_once_cell.proofs.inner.hand.Hand.are_two.Goals as goal

pub note-requires-clause-notes : goal.note-requires-clause-notes
note-requires-clause-notes c =
    rw c.append.ensures.own.1
    (apart_notes c.args.a.now.seen.log c.args.b.now.seen.log _ _ _ c.args.a.now.is_hand c.args.b.now.is_hand)
