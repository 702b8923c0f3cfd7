-- Each poll continues the record, and finishes a task or leaves its init pending.
use Rattle.std.proofs.Common.{◌≡◌, ℕ, refl, sym, ap, ◌∙◌, subst}
use Rattle.std.proofs.lemmas.Bool.{false≢true}
use Rattle.once_machine.specs.Record.{made_in}
use Rattle.once_machine.specs.Numbers.{member}
use Rattle.once_drained.specs.Drained.{IsInitPending, record_of}
use Rattle.once_drained.specs.declared.Drained.{Drained}
use Rattle.once_drained.proofs.Polled.{continued_both}
use Rattle.once_drained.proofs.Quiet.{fits_of, idle_so}
use Rattle.once_drained.proofs.drain.Goals as goal

pub end_calls-requires : goal.end_calls-requires
end_calls-requires c =
    let r = c.requires.reached in record {
      reached = r;
      tasks = λ u e.
          let out = ap (member u) (sym c.as_slice-tasks.ensures.value) ∙ e in
          (fits_of r.0 r.1 c.args.world.now (r.2, r.3)).made_all u (sym (ap (λ h. member u (made_in h)) c.entries.ensures.entries) ∙ c.in_ok-all.ensures u out);
    }

pub loop-task-init : goal.loop-task-init
loop-task-init c =
    let e = c.in_ok-end_calls.ensures in
    (e.reached, λ kind limit x. (e.world kind limit x, e.continued kind limit x), e.tasks, e.quiet)

pub loop-task-preserved : goal.loop-task-preserved
loop-task-preserved c =
    let i = c.loop-task.invariant in
    let e = c.in_ok-poll.ensures in (
      e.reached,
      λ kind limit x.
          let b = i.1 kind limit x in
          (e.world kind limit b.0, continued_both kind (record_of c.args.world.now) (record_of c.loop-task.world) (record_of c.poll.new.world) b.1 (e.continued kind limit b.0)),
      λ u m. e.tasks u (i.2 u m),
      e.quiet,
    )

pub poll-requires : goal.poll-requires
poll-requires c = record { reached = c.loop-task.invariant.0; quiet = c.loop-task.invariant.3; alone = c.in-Some.ensures.alone; reason = c.in-Some.ensures.reason }

pub next-requires : goal.next-requires
next-requires c = record { reached = c.loop-task.invariant.0; quiet = c.loop-task.invariant.3; tasks = c.loop-task.invariant.2 }

pub loop-task-smaller : goal.loop-task-smaller
loop-task-smaller c = c.in_ok-poll.ensures.fewer c.if-not-branch.false

-- the two ways to end are not the same, and name one task
pending_not_all : (t : ℕ) → Drained.Pending t ≡ Drained.All → ⊥
pending_not_all t e = cc

same_pending : (t u : ℕ) → ◌≡◌ {A = Drained} (Drained.Pending t) (Drained.Pending u) → t ≡ u
same_pending t u e = cc

pub returns-then-not-branch-clause-world : goal.returns-then-not-branch-clause-world
returns-then-not-branch-clause-world c = λ kind limit x. c.in_ok-poll.ensures.world kind limit (c.loop-task.invariant.1 kind limit x).0

pub returns-then-not-branch-clause-continued : goal.returns-then-not-branch-clause-continued
returns-then-not-branch-clause-continued c = λ kind limit x.
    let b = c.loop-task.invariant.1 kind limit x in
    continued_both kind (record_of c.args.world.now) (record_of c.loop-task.world) (record_of c.poll.new.world) b.1 (c.in_ok-poll.ensures.continued kind limit b.0)

pub returns-then-not-branch-clause-idle : goal.returns-then-not-branch-clause-idle
returns-then-not-branch-clause-idle c = λ kind limit u x.
    let b = c.loop-task.invariant.1 kind limit x in
    idle_so kind limit c.poll.new.world (c.in_ok-poll.ensures.world kind limit b.0) c.in_ok-poll.ensures.quiet u

pub returns-then-not-branch-clause-all : goal.returns-then-not-branch-clause-all
returns-then-not-branch-clause-all c = λ kind limit x e. absurd (pending_not_all c.in-Some.task e)

pub returns-then-not-branch-clause-pending : goal.returns-then-not-branch-clause-pending
returns-then-not-branch-clause-pending c = λ kind limit t x e.
    let b = c.loop-task.invariant.1 kind limit x in
    subst (λ u. IsInitPending kind u (record_of c.poll.new.world)) (same_pending c.in-Some.task t e) (c.in_ok-poll.ensures.pending kind limit b.0 c.if-not-branch.true)

pub returns-then-not-branch-clause-answered : goal.returns-then-not-branch-clause-answered
returns-then-not-branch-clause-answered c = λ kind limit x once gives.
    let b = c.loop-task.invariant.1 kind limit x in
    absurd (false≢true (sym c.if-not-branch.true ∙ c.in_ok-poll.ensures.answered kind limit b.0 once gives))

pub returns-clause-world : goal.returns-clause-world
returns-clause-world c = λ kind limit x. (c.loop-task.invariant.1 kind limit x).0

pub returns-clause-continued : goal.returns-clause-continued
returns-clause-continued c = λ kind limit x. (c.loop-task.invariant.1 kind limit x).1

pub returns-clause-idle : goal.returns-clause-idle
returns-clause-idle c = λ kind limit u x. idle_so kind limit c.loop-task.world (c.loop-task.invariant.1 kind limit x).0 c.loop-task.invariant.3 u

pub returns-clause-all : goal.returns-clause-all
returns-clause-all c = λ kind limit x e. c.in_default.ensures.none refl kind limit (c.loop-task.invariant.1 kind limit x).0

pub returns-clause-pending : goal.returns-clause-pending
returns-clause-pending c = λ kind limit t x e. absurd (pending_not_all t (sym e))

pub returns-clause-answered : goal.returns-clause-answered
returns-clause-answered c = λ kind limit x once gives. refl
