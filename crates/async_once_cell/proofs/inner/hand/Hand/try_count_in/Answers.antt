use Rattle.std.proofs.Common.{◌≡◌, ◌<◌, sym, subst, arith}
use Rattle.std.proofs.lemmas.Bool.Decides.{nat_tests}
use Rattle.once_machine.specs.Word.{flags_of}
use Rattle.once_machine.specs.Book.{TaskState}
use Rattle.async_once_cell.specs.Kept.{most}
use Rattle.once_machine.specs.Table.{CountIn}
use Rattle.async_once_cell.specs.Inner.Page.{call_in}
use Rattle.async_once_cell.proofs.Acts.{enter_keeps, full_keeps, room_stays}
use Rattle.async_once_cell.proofs.inner.hand.Hand.try_count_in.Goals as goal

pub load-before-requires-clause-moves : goal.load-before-requires-clause-moves
load-before-requires-clause-moves c = rw c.requires.word.1 (full_keeps _ _ c.args.self.now.is_hand c.requires.can)

pub compare_exchange-found-requires-clause-moves : goal.compare_exchange-found-requires-clause-moves
compare_exchange-found-requires-clause-moves c =
    let full = c.if-before-ge-MAX_WAITERS.false in
    let l : (flags_of c.load-before.result).count < most = grind (arith, nat_tests, full) in
    let s = room_stays c.load-before.result (c.args.self.now.seen.log, c.args.self.now.pens.held) (c.load-before.new.seen.log, c.load-before.new.pens.held) l c.load-before.ensures.then in
    rw c.requires.word.1 (enter_keeps _ _ s.0 _ (subst (λ (y : TaskState). call_in y.step ≡ CountIn) (sym s.1.task) c.requires.can) l)
