-- The look is its line of the table, with the copy of the waker or its refusal. If there is a copy, the listing follows.
use Rattle.std.proofs.Common.{◌≡◌, ℕ, refl, sym, ap, rules, subst, Option, None, Some}
use Rattle.std.specs.Prelude.{⊤}
use Rattle.once_machine.specs.declared.waiters.Op.TheVariants.{Look}
use Rattle.once_machine.specs.Table.{after_look, wants_copy}
use Rattle.once_machine.specs.declared.step.Progress.{Progress}
use Rattle.once_machine.specs.declared.step.Rest.TheVariants.{Wait}
use Rattle.once_machine.specs.declared.step.Step.{Step}
use Rattle.once_machine.specs.declared.step.Step.TheVariants.{Resting}
use Rattle.async_once_cell.specs.Inner.Hands.{own_of}
use Rattle.async_once_cell.specs.Inner.Own.{Own}
use Rattle.async_once_cell.specs.Inner.Sides.{Sided}
use Rattle.async_once_cell.specs.Inner.Ways.{Leads, next_by}
use Rattle.async_once_cell.specs.Inner.Places.{CanRest}
use Rattle.async_once_cell.specs.Inner.Steps.{StandsForStep}
use Rattle.async_once_cell.specs.Walks.{StandsOn, the_queue}
use Rattle.async_once_cell.specs.declared.inner.ways.Reached.TheVariants.{Claimed, Ready, Waits}
use Rattle.async_once_cell.proofs.Walk.Ways.{copied, looked, onward}
use Rattle.async_once_cell.proofs.inner.shared.Inner.locked_look.Goals as goal

-- what the task knows is the same after a renewal
led_same : {W : Type 0} (whose : W → ℕ) {x y : Sided} {v w u : Own} {r : Progress} {s : Step W ⊤} → u ≡ w → Leads whose x v r s y w → Leads whose x v r s y u
led_same whose {x} {y} {v} {w} {u} {r} {s} is leads = subst (λ (o : Own). Leads whose x v r s y o) (sym is) leads

-- a waiter with a listing may come to it
may_come : {W : Type 0} (whose : W → ℕ) (k : ℕ) (s : Step ℕ ℕ) → StandsForStep whose (λ (q : ⊤). q) the_queue (Resting (Wait tt (Some k))) s → CanRest k s
may_come whose k (Resting (Wait q (Some j))) is = cc
may_come whose k _ is = let no : ⊥ = cc in absurd no

pub returns-in-Ready-clause-leads : goal.returns-in-Ready-clause-leads
returns-in-Ready-clause-leads g c =
    let s = c.look-answer in
    looked g.W.TaskWaker.whose c.args.ticket s.result.0 (Look s.new.ticket) (next_by Ready) (ap (wants_copy (Look c.args.ticket)) c.in-Ready.is)
    c.requires.stands s.ensures.did (ap (λ a. after_look a None tt s.new.ticket) c.in-Ready.is) refl

pub returns-in-Claimed-clause-leads : goal.returns-in-Claimed-clause-leads
returns-in-Claimed-clause-leads g c =
    let s = c.look-answer in
    looked g.W.TaskWaker.whose c.args.ticket s.result.0 (Look s.new.ticket) (next_by Claimed) (ap (wants_copy (Look c.args.ticket)) c.in-Claimed.is)
    c.requires.stands s.ensures.did (ap (λ a. after_look a None tt s.new.ticket) c.in-Claimed.is) refl

pub renew-is_renewed-requires-clause-can : goal.renew-is_renewed-requires-clause-can
renew-is_renewed-requires-clause-can g c =
    let s = c.look-answer in
    let led = looked g.W.TaskWaker.whose c.args.ticket s.result.0 (Look s.new.ticket) (next_by (Waits s.new.ticket)) (ap (wants_copy (Look c.args.ticket)) c.in-Listed.is)
    c.requires.stands s.ensures.did (ap (λ a. after_look a None tt s.new.ticket) c.in-Listed.is) refl in
    may_come g.W.TaskWaker.whose c.in-Some.own (own_of s.new.hand).task.step
    (subst (λ (k : Option ℕ). StandsOn g.W.TaskWaker.whose (own_of s.new.hand) (Resting (Wait tt k))) c.in-Some.is led.stands.step)

pub returns-in-Some-clause-leads : goal.returns-in-Some-clause-leads
returns-in-Some-clause-leads g c =
    let s = c.look-answer in
    let r = c.renew-is_renewed in
    let state : g.S.TaskSide.state r.new.by ≡ g.S.TaskSide.state c.args.side.now = search rules in
    rw (← c.in-Some.is) (led_same g.W.TaskWaker.whose r.ensures.hand
    (looked g.W.TaskWaker.whose c.args.ticket s.result.0 (Look s.new.ticket) (next_by (Waits s.new.ticket)) (ap (wants_copy (Look c.args.ticket)) c.in-Listed.is)
    c.requires.stands s.ensures.did (ap (λ a. after_look a None tt s.new.ticket) c.in-Listed.is) state))

pub returns-in_default-ticket-clause-leads : goal.returns-in_default-ticket-clause-leads
returns-in_default-ticket-clause-leads g c =
    let s = c.look-answer in
    looked g.W.TaskWaker.whose c.args.ticket s.result.0 (Look s.new.ticket) (next_by (Waits s.new.ticket)) (ap (wants_copy (Look c.args.ticket)) c.in-Listed.is)
    c.requires.stands s.ensures.did (ap (λ a. after_look a None tt s.new.ticket) c.in-Listed.is) refl

pub returns-in-Err-clause-leads : goal.returns-in-Err-clause-leads
returns-in-Err-clause-leads g c =
    let s = c.look-answer in
    copied g.W.TaskWaker.whose c.args.ticket s.result.0 (Look s.new.ticket) None c.in_default.not-Ready c.in_default.not-Claimed c.in_default.not-Listed
    c.requires.stands s.ensures.did (g.met.S.TaskSide.tells.copy _ _ _ c.in-Err.ensures.did) (refl, c.refused.ensures.did) refl

pub locked_list-requires-clause-stands : goal.locked_list-requires-clause-stands
locked_list-requires-clause-stands g c =
    let s = c.look-answer in
    (copied g.W.TaskWaker.whose c.args.ticket s.result.0 (Look s.new.ticket) (Some c.in-Ok.waker) c.in_default.not-Ready c.in_default.not-Claimed c.in_default.not-Listed
    c.requires.stands s.ensures.did (g.met.S.TaskSide.tells.copy _ _ _ c.in-Ok.ensures.did) refl refl).stands

pub returns-in-Ok-clause-leads : goal.returns-in-Ok-clause-leads
returns-in-Ok-clause-leads g c =
    let s = c.look-answer in
    onward g.W.TaskWaker.whose
    (copied g.W.TaskWaker.whose c.args.ticket s.result.0 (Look s.new.ticket) (Some c.in-Ok.waker) c.in_default.not-Ready c.in_default.not-Claimed c.in_default.not-Listed
    c.requires.stands s.ensures.did (g.met.S.TaskSide.tells.copy _ _ _ c.in-Ok.ensures.did) refl refl)
    c.locked_list.ensures.leads
