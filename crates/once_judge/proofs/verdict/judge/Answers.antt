-- What is kept is of the entries so far; and so it decides the next, and tells which tasks were woken.
use Rattle.std.proofs.Common.{◌≡◌, [], Some, None, MatchOption, take, sym, ◌∙◌, subst, arith}
use Rattle.std.proofs.lemmas.Grind.{common_steps}
use Rattle.once_machine.specs.Shown.{kind_of, entry_of, history_in}
use Rattle.once_machine.specs.Called.{SomebodyCalled}
use Rattle.once_machine.specs.Run.{AtEvery}
use Rattle.once_judge.specs.Calls.{IsRunBy}
use Rattle.once_judge.specs.SeenOf.{IsSeenOf}
use Rattle.once_judge.specs.Shown.{seen_of}
use Rattle.once_judge.specs.Next.{Followed}
use Rattle.once_judge.specs.Verdict.{IsForgottenAt}
use Rattle.once_judge.proofs.Either.{run_none}
use Rattle.once_judge.proofs.Sinces.{seen_none}
use Rattle.once_judge.proofs.Verdicts.{judged_step, stops, within, true_at, none_forgotten, watched_more, watched_out}
use Rattle.once_judge.proofs.verdict.judge.Goals as goal

pub loop-number-init : goal.loop-number-init
loop-number-init c =
    let K = kind_of c.args.kind.now in (
      record { run = run_none c.args.calls K c.args.limit; seen = subst (IsSeenOf K c.args.limit []) (sym c.in_ok-seen.ensures.seen) (seen_none K c.args.limit) },
      c.in_ok-seen.ensures.rules,
      none_forgotten K c.args.entries.now,
    )

pub follow-requires-clause-within : goal.follow-requires-clause-within
follow-requires-clause-within c =
    let j = c.loop-number.invariant.0 in
    within (kind_of c.args.kind.now) c.args.limit (history_in (take c.loop-number.number c.args.entries.now)) (seen_of c.loop-number.seen) j.seen

pub returns-in-Some-clause-run : goal.returns-in-Some-clause-run
returns-in-Some-clause-run c =
    let K = kind_of c.args.kind.now in
    let x = c.index-entries-number.result in
    let S = seen_of c.loop-number.seen in
    let S' = seen_of c.follow.new.self in
    let refused : Followed (Some c.in-Some.reason) c.loop-number.seen.rules (entry_of x) S S' = rw c.in-Some.is at c.in_ok-reason.ensures.followed in
    stops c.args.calls K c.args.limit c.args.entries.now c.loop-number.number x S (omega arith) c.index-entries-number.is c.loop-number.invariant.0
    (subst (λ r. Followed (Some c.in-Some.reason) r (entry_of x) S S') c.loop-number.invariant.1 refused).0

pub returns-in-Some-clause-reason : goal.returns-in-Some-clause-reason
returns-in-Some-clause-reason c =
    let K = kind_of c.args.kind.now in
    let x = c.index-entries-number.result in
    let S = seen_of c.loop-number.seen in
    let S' = seen_of c.follow.new.self in
    let refused : Followed (Some c.in-Some.reason) c.loop-number.seen.rules (entry_of x) S S' = rw c.in-Some.is at c.in_ok-reason.ensures.followed in
    true_at c.args.calls K c.args.limit c.args.entries.now c.loop-number.number x S c.in-Some.reason (omega arith) c.index-entries-number.is c.loop-number.invariant.0
    (subst (λ r. Followed (Some c.in-Some.reason) r (entry_of x) S S') c.loop-number.invariant.1 refused).1

pub loop-number-preserved : goal.loop-number-preserved
loop-number-preserved c =
    let K = kind_of c.args.kind.now in
    let x = c.index-entries-number.result in
    let S = seen_of c.loop-number.seen in
    let T = seen_of c.follow.new.self in
    let taken : Followed None c.loop-number.seen.rules (entry_of x) S T = rw c.in_default.is at c.in_ok-reason.ensures.followed in
    let judged = judged_step c.args.calls K c.args.limit c.args.entries.now c.loop-number.number x S T (omega arith) c.index-entries-number.is c.loop-number.invariant.0
    (subst (λ r. Followed None r (entry_of x) S T) c.loop-number.invariant.1 taken) in (
      judged,
      c.in_ok-reason.ensures.rules ∙ c.loop-number.invariant.1,
      watched_more c.args.calls K c.args.limit c.args.entries.now c.loop-number.number x T c.loop-number.forgotten c.first_forgotten-forgotten.result (omega arith) c.index-entries-number.is
          judged c.loop-number.invariant.2 c.first_forgotten-forgotten.ensures,
    )

pub returns-in-Some-clause-called : goal.returns-in-Some-clause-called
returns-in-Some-clause-called c = watched_out (kind_of c.args.kind.now) c.args.entries.now c.loop-number.number c.loop-number.forgotten c.loop-number.invariant.2

pub returns-clause-run : goal.returns-clause-run
returns-clause-run c =
    let all : take c.loop-number.number c.args.entries.now ≡ c.args.entries.now = grind (arith, common_steps) in
    subst (λ xs. IsRunBy c.args.calls (kind_of c.args.kind.now) c.args.limit (history_in xs)) all c.loop-number.invariant.0.run

pub returns-clause-called : goal.returns-clause-called
returns-clause-called c =
    let K = kind_of c.args.kind.now in
    let all : take c.loop-number.number c.args.entries.now ≡ c.args.entries.now = grind (arith, common_steps) in
    subst (λ xs. MatchOption c.loop-number.forgotten (AtEvery (SomebodyCalled K) (history_in xs)) (λ f. IsForgottenAt K c.args.entries.now f.entry f.task)) all
    (watched_out K c.args.entries.now c.loop-number.number c.loop-number.forgotten c.loop-number.invariant.2)
