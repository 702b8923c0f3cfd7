-- Each task that lives is looked at.
use Rattle.std.proofs.Common.{sym, ap, ◌∙◌, subst, nat_cmp}
use Rattle.std.specs.Prelude.{IfSome}
use Rattle.std.specs.List.{All}
use Rattle.std.specs.Cmp.{nat_cmp_total}
use Rattle.std.specs.Map.Iter.{deref_pair}
use Rattle.std.specs.BTreeMap.{is_at}
use Rattle.std.specs.BTreeSet.{contains}
use Rattle.std.proofs.lemmas.Bool.{false≢true}
use Rattle.std.proofs.lemmas.List.Elements.{All-push, All-map}
use Rattle.std.proofs.lemmas.Map.Entries.{All-lookup}
use Rattle.std.proofs.lemmas.Map.Iter.{btree_map_turn, iter_end}
use Rattle.once_judge.specs.declared.task.Task.{Task}
use Rattle.once_judge.specs.Shown.{task_in, found}
use Rattle.once_judge.proofs.Dues.{Over, lives_not, none_lives}
use Rattle.once_judge.proofs.seen.Seen.all_gone.Goals as goal

pub returns-then-not-is_over-clause-rule : goal.returns-then-not-is_over-clause-rule
returns-then-not-is_over-clause-rule c =
    let h = c.into_iter-t-iterator.ensures.into_iter_gives in
    let turn = btree_map_turn deref_pair c.loop-t.yielded c.into_iter-t-iterator.result c.loop-t.t-iterator c.next.new.self c.next.result
    (c.in-Some.t, c.in-Some.task) c.loop-t.yielded_by c.in-Some.is c.next.ensures.steps nat_cmp_total c.args.self.now.tasks.all h.0 h.5 in
    lives_not c.args.self.now c.in-Some.t.now c.in-Some.task.now turn.1 (λ o. false≢true (sym c.if-not-is_over.true ∙ c.is_over.ensures.1 o))

pub returns-then-not-is_over-clause-reason : goal.returns-then-not-is_over-clause-reason
returns-then-not-is_over-clause-reason c =
    let h = c.into_iter-t-iterator.ensures.into_iter_gives in
    let turn = btree_map_turn deref_pair c.loop-t.yielded c.into_iter-t-iterator.result c.loop-t.t-iterator c.next.new.self c.next.result
    (c.in-Some.t, c.in-Some.task) c.loop-t.yielded_by c.in-Some.is c.next.ensures.steps nat_cmp_total c.args.self.now.tasks.all h.0 h.5 in
    λ e. ap (λ o. (found o (contains nat_cmp c.args.self.now.gone c.in-Some.t.now)).status) turn.1

pub returns-clause-rule : goal.returns-clause-rule
returns-clause-rule c =
    let h = c.into_iter-t-iterator.ensures.into_iter_gives in
    let all = iter_end deref_pair c.args.self.now.tasks.all.entries c.loop-t.yielded c.into_iter-t-iterator.result c.loop-t.t-iterator c.next.new.self c.next.result
    h.0 c.loop-t.yielded_by c.in-None.is c.next.ensures.steps in
    let P : Task → Type 0 = λ x. Over (task_in x).status in
    let each : All (λ e. P e.1) c.args.self.now.tasks.all.entries =
    subst (λ es. All (λ e. P e.1) es) all.0 (All-map (λ e. P e.1) deref_pair c.loop-t.yielded c.loop-t.invariant) in
    none_lives c.args.self.now (λ t x g.
    let there = All-lookup P (is_at (nat_cmp t)) c.args.self.now.tasks.all.entries each in
    subst (λ o. IfSome o P) g there)

pub loop-t-preserved : goal.loop-t-preserved
loop-t-preserved c =
    All-push (λ p. Over (task_in p.1.now).status) c.loop-t.yielded (c.in-Some.t, c.in-Some.task) c.loop-t.invariant
    (c.is_over.ensures.0 c.if-not-is_over.false)
