-- The page has not changed, and it has all of the task's entries.
use Rattle.std.proofs.Common.{subst}
use Rattle.async_once_cell.specs.Inner.Own.{IsHand}
use Rattle.async_once_cell.proofs.TwoTasks.{learned_notes, same_entries}
use Rattle.async_once_cell.proofs.inner.hand.Hand.learn.Goals as goal

pub note-requires-clause-notes : goal.note-requires-clause-notes
note-requires-clause-notes c = learned_notes c.args.self.now.seen.log _ _ c.args.self.now.is_hand

pub returns-clause-mine : goal.returns-clause-mine
returns-clause-mine c =
    let learned = c.note.ensures.then in
    let h = c.args.self.now.pens.held in
    let after : IsHand c.note.new.self.log h = subst (IsHand c.note.new.self.log) learned.0 learned.1 in
    same_entries c.args.self.now.seen.log c.note.new.self.log h c.args.self.now.is_hand after
