-- Each task that asks is looked at.
use Rattle.std.proofs.Common.{◌≡◌, ℕ, true, sym, ◌∙◌, subst, nat_cmp}
use Rattle.std.specs.List.{All}
use Rattle.std.specs.Map.Iter.{deref}
use Rattle.std.specs.BTreeSet.{contains}
use Rattle.std.proofs.lemmas.Bool.{false≢true}
use Rattle.std.proofs.lemmas.List.Elements.{All-push, All-map}
use Rattle.std.proofs.lemmas.Map.Iter.{iter_end}
use Rattle.once_judge.specs.Shown.{seen_of}
use Rattle.once_judge.proofs.Dues.{IsAmong, among_all, due_at, due_so, waker_at}
use Rattle.once_judge.proofs.seen.Seen.due_outside.Goals as goal
use Rattle.once_judge.proofs.seen.Seen.due_outside.Goals.{else-is_due-via-then-is_due+else-not-contains, else-is_due-via-else-is_due}

pub returns-then-not-contains : goal.returns-then-not-contains
returns-then-not-contains c =
    let due = c.is_due.ensures.0 c.if-is_due.true in
    (due_at (seen_of c.args.self.now) c.in-Some.t.now c.task-task.result c.task-task.ensures due.0 due.1, sym c.contains.ensures ∙ c.if-not-contains.true)

pub returns : goal.returns
returns c =
    let h = c.into_iter-t-iterator.ensures.into_iter_gives in
    let among = c.args.self.now.tasks.asking in
    let all = iter_end deref among.keys c.loop-t.yielded c.into_iter-t-iterator.result c.loop-t.t-iterator c.next.new.self c.next.result
    h.0 c.loop-t.yielded_by c.in-None.is c.next.ensures.steps in
    let P : ℕ → Type 0 = IsAmong (seen_of c.args.self.now) c.args.wakers.now in
    let each : All P among.keys = subst (All P) all.0 (All-map P deref c.loop-t.yielded c.loop-t.invariant) in
    among_all c.args.self.now c.args.wakers.now each

pub loop-t-preserved : goal.loop-t-preserved
loop-t-preserved c =
    let S = seen_of c.args.self.now in
    let x = c.task-task.result in
    All-push (λ p. IsAmong S c.args.wakers.now p.now) c.loop-t.yielded c.in-Some.t c.loop-t.invariant
    (λ w d. elim c.else-is_due.branch [
      | else-is_due-via-then-is_due+else-not-contains b ↦ subst (λ v. contains nat_cmp c.args.wakers.now v ≡ true)
          (waker_at S c.in-Some.t.now w x c.task-task.ensures d) (sym b.contains.ensures ∙ b.if-not-contains.false)
      | else-is_due-via-else-is_due b ↦ absurd (false≢true (sym b.if-is_due.false ∙ c.is_due.ensures.1 (due_so S c.in-Some.t.now w x c.task-task.ensures d)))
    ])
