-- The future learned what the token has seen, and then it left or was polled.
use Rattle.std.proofs.Common.{sym, ◌∙◌, rules}
use Rattle.futures.specs.Task.{Keeps}
use Rattle.async_once_cell.proofs.Later.{did_later, left_later, polls_known, polls_unknown, spans_after}
use Rattle.async_once_cell.proofs.once.future.Initializing.poll_as.Goals as goal

pub returns-then-knows_value-clause-call : goal.returns-then-knows_value-clause-call
returns-then-knows_value-clause-call g c =
    let learned = c.learn.ensures in
    let kept : Keeps c.args.cx.now c.args.cx.now = search rules in
    polls_known c.args.token.now.value c.args.self.now c.leave_as.new.self _ _ _ (sym c.knows_value.ensures.knows ∙ c.if-knows_value.true)
    (left_later c.args.self.now c.learn.new.self c.leave_as.new.self learned.cell learned.task learned.log learned.mine c.leave_as.ensures.left, kept)

pub returns-clause-call : goal.returns-clause-call
returns-clause-call g c =
    let learned = c.learn.ensures in
    polls_unknown c.args.token.now.value c.args.self.now c.poll-polled.new.self _ _ _ (sym c.knows_value.ensures.knows ∙ c.if-knows_value.false)
    (did_later c.args.self.now c.learn.new.self _ _ _ _ learned.cell learned.task learned.log learned.mine c.poll-polled.ensures.call)

pub returns-clause-spans : goal.returns-clause-spans
returns-clause-spans g c = λ none.
    let learned = c.learn.ensures in
    spans_after c.args.self.now c.learn.new.self c.poll-polled.new.self _ _ _ c.args.token.now.log learned.cell learned.task learned.other c.poll-polled.ensures.call
