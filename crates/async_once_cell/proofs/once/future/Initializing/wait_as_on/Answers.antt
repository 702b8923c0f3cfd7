-- A token that finds the value learns it. One that finds nothing knew nothing before, and learns from the last poll.
-- After a poll that is Pending the future is unfinished still, and the token knows nothing.
use Rattle.std.proofs.Common.{rules, ℕ, Option, sym, ◌∙◌, subst}
use Rattle.async_once_cell.proofs.Desks.{prefix_on}
use Rattle.futures.specs.Poll.{IfReady}
use Rattle.async_once_cell.specs.Inits.{TellsOwn}
use Rattle.async_once_cell.specs.Polls.{DidPoll, Polls, PollsAs, ending_by}
use Rattle.async_once_cell.proofs.Inits.{tells_on}
use Rattle.async_once_cell.proofs.Looks.{look_grows}
use Rattle.async_once_cell.proofs.Later.{saw_end, saw_error}
use Rattle.async_once_cell.specs.Polls.{SawEnd, SpansIn}
use Rattle.async_once_cell.specs.Walks.{end_of}
use Rattle.futures.specs.declared.task.Poll.TheVariants.{Ready}
use Rattle.async_once_cell.proofs.once.future.Initializing.wait_as_on.Goals as goal

pub returns-in-Some-clause-value : goal.returns-in-Some-clause-value
returns-in-Some-clause-value g c = search rules

pub returns-in-Ready-clause-value : goal.returns-in-Ready-clause-value
returns-in-Ready-clause-value g c = search rules

pub loop-preserved : goal.loop-preserved
loop-preserved g c =
    let asked = c.poll_as-polled.ensures in
    let new = c.poll_as-polled.new in
    let call = subst (λ (k : Option g.row.T.Denot).
    PollsAs k c.loop.self new.self c.in-Some-next.cx new.cx (ending_by g.X.Failure.ending c.poll_as-polled.result)) c.loop.invariant.3 asked.call in
    let did = subst (λ r. DidPoll c.loop.self new.self c.in-Some-next.cx new.cx (ending_by g.X.Failure.ending r)) c.in_default-polled.is call in
    let told = subst (λ r. Polls c.loop.token.value new.token.value r) c.in_default-polled.is asked.value in (
      did.finished,
      asked.cell ∙ c.loop.invariant.1 ∙ sym did.cell,
      asked.cell ∙ c.loop.invariant.2,
      told.1,
      prefix_on c.args.token.now.log c.loop.token.log _ c.loop.invariant.4 asked.log,
      λ x m. c.loop.invariant.5 x (asked.same c.in_default-polled.is x m),
      did.task ∙ c.loop.invariant.6,
    )

pub returns-in-Ready-clause-log : goal.returns-in-Ready-clause-log
returns-in-Ready-clause-log g c = prefix_on c.args.token.now.log c.loop.token.log _ c.loop.invariant.4 c.poll_as-polled.ensures.log

pub returns-in-Ready-clause-own : goal.returns-in-Ready-clause-own
returns-in-Ready-clause-own g c =
    let own = subst (λ r. IfReady r (TellsOwn g.I.Init.may_fail g.X.Failure.ending c.loop.self.init)) c.in-Ready.is c.poll_as-polled.ensures.own in
    tells_on g.I.Init.may_fail g.X.Failure.ending c.args.self.init c.loop.self.init c.loop.invariant.5 c.in-Ready.answer own

pub returns-in-Some-clause-log : goal.returns-in-Some-clause-log
returns-in-Some-clause-log g c = look_grows _ _ _ _ _ c.get_as.ensures.look

pub returns-in_err-add-clause-log : goal.returns-in_err-add-clause-log
returns-in_err-add-clause-log g c = look_grows _ _ _ _ _ c.get_as.ensures.look

pub returns-in-Ready-clause-last : goal.returns-in-Ready-clause-last
returns-in-Ready-clause-last g c =
    let ending = g.X.Failure.ending in
    let asked = c.poll_as-polled.ensures in
    let new = c.poll_as-polled.new in
    let cell = sym c.loop.invariant.1 ∙ c.loop.invariant.2 ∙ c.requires.token_of_this_cell in
    let spans = subst (λ r. SpansIn c.loop.self.cell c.loop.self.task (end_of c.loop.self.task (ending_by ending r)) c.loop.token.log new.self.log) c.in-Ready.is (asked.spans c.loop.invariant.3) in
    let saw = saw_end c.loop.self.cell c.loop.self.task (end_of c.loop.self.task (ending_by ending (Ready c.in-Ready.answer)))
    c.args.token.now.log c.loop.token.log new.self.log new.token.log c.loop.invariant.4 spans (asked.told c.loop.invariant.3) in
    saw_error ending c.in-Ready.answer c.args.self.cell c.args.self.task c.args.token.now.log new.token.log
    (subst (λ k. SawEnd k c.args.self.task (end_of c.args.self.task (ending_by ending (Ready c.in-Ready.answer))) c.args.token.now.log new.token.log) cell
    (subst (λ (t : ℕ). SawEnd c.loop.self.cell t (end_of t (ending_by ending (Ready c.in-Ready.answer))) c.args.token.now.log new.token.log) c.loop.invariant.6 saw))
