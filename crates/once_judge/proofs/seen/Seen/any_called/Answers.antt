-- Each task that lives is looked at.
use Rattle.std.proofs.Common.{refl, sym, ◌∙◌, subst, nat_cmp}
use Rattle.std.specs.Prelude.{IfSome}
use Rattle.std.specs.List.{All}
use Rattle.std.specs.Cmp.{nat_cmp_total}
use Rattle.std.specs.Map.Iter.{deref_pair}
use Rattle.std.specs.BTreeMap.{is_at}
use Rattle.std.proofs.lemmas.Bool.{false≢true}
use Rattle.std.proofs.lemmas.List.Elements.{All-push, All-map}
use Rattle.std.proofs.lemmas.Map.Entries.{All-lookup}
use Rattle.std.proofs.lemmas.Map.Iter.{btree_map_turn, iter_end}
use Rattle.once_judge.specs.declared.task.Task.{Task}
use Rattle.once_judge.specs.Legal.{WasCalled}
use Rattle.once_judge.specs.Shown.{seen_of, task_in}
use Rattle.once_judge.proofs.Dues.{called_at, none_called}
use Rattle.once_judge.proofs.seen.Seen.any_called.Goals as goal

pub returns-then-is_called : goal.returns-then-is_called
returns-then-is_called c =
    let h = c.into_iter-task-iterator.ensures.into_iter_gives in
    let turn = btree_map_turn deref_pair c.loop-task.yielded c.into_iter-task-iterator.result c.loop-task.task-iterator c.next.new.self c.next.result
    (c.in-Some.field-0-0, c.in-Some.task) c.loop-task.yielded_by c.in-Some.is c.next.ensures.steps nat_cmp_total c.args.self.now.tasks.all h.0 h.5 in
    let called = c.is_called.ensures.0 c.if-is_called.true in
    (λ e. (c.in-Some.field-0-0.now, called_at c.args.self.now c.in-Some.field-0-0.now c.in-Some.task.now turn.1 called), λ w. refl)

pub returns : goal.returns
returns c =
    let h = c.into_iter-task-iterator.ensures.into_iter_gives in
    let all = iter_end deref_pair c.args.self.now.tasks.all.entries c.loop-task.yielded c.into_iter-task-iterator.result c.loop-task.task-iterator c.next.new.self c.next.result
    h.0 c.loop-task.yielded_by c.in-None.is c.next.ensures.steps in
    let P : Task → Type 0 = λ x. WasCalled (task_in x) (seen_of c.args.self.now) → ⊥ in
    let each : All (λ e. P e.1) c.args.self.now.tasks.all.entries =
    subst (λ es. All (λ e. P e.1) es) all.0 (All-map (λ e. P e.1) deref_pair c.loop-task.yielded c.loop-task.invariant) in (
      λ e. absurd (false≢true e),
      λ w. absurd (none_called c.args.self.now (λ t x g.
          let found = All-lookup P (is_at (nat_cmp t)) c.args.self.now.tasks.all.entries each in
          subst (λ o. IfSome o P) g found) w),
    )

pub loop-task-preserved : goal.loop-task-preserved
loop-task-preserved c =
    All-push (λ p. WasCalled (task_in p.1.now) (seen_of c.args.self.now) → ⊥) c.loop-task.yielded (c.in-Some.field-0-0, c.in-Some.task) c.loop-task.invariant
    (λ w. false≢true (sym c.if-is_called.false ∙ c.is_called.ensures.1 w))
