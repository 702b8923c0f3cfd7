-- Each task that waits is looked at.
use Rattle.std.proofs.Common.{◌≡◌, ℕ, sym, ap, ◌∙◌, subst}
use Rattle.std.specs.List.{All}
use Rattle.std.specs.Map.Iter.{deref}
use Rattle.std.proofs.lemmas.Bool.{false≢true}
use Rattle.std.proofs.lemmas.List.Elements.{All-push, All-map}
use Rattle.std.proofs.lemmas.Map.Iter.{iter_end}
use Rattle.once_machine.specs.Tasks.{Waiting}
use Rattle.once_judge.specs.Shown.{seen_of}
use Rattle.once_judge.proofs.Dues.{all_stand}
use Rattle.once_judge.proofs.seen.Seen.some_waits.Goals as goal

pub returns-then-is_waiting : goal.returns-then-is_waiting
returns-then-is_waiting c = ap (λ z. z.status) (sym c.task.ensures) ∙ c.is_waiting.ensures.0 c.if-is_waiting.true

pub returns : goal.returns
returns c =
    let h = c.into_iter-t-iterator.ensures.into_iter_gives in
    let among = c.args.self.now.tasks.waiting in
    let all = iter_end deref among.keys c.loop-t.yielded c.into_iter-t-iterator.result c.loop-t.t-iterator c.next.new.self c.next.result
    h.0 c.loop-t.yielded_by c.in-None.is c.next.ensures.steps in
    let P : ℕ → Type 0 = λ t. ((seen_of c.args.self.now).task t).status ≡ Waiting → ⊥ in
    let each : All P among.keys = subst (All P) all.0 (All-map P deref c.loop-t.yielded c.loop-t.invariant) in
    λ t w. all_stand c.args.self.now P each t w w

pub loop-t-preserved : goal.loop-t-preserved
loop-t-preserved c =
    All-push (λ p. ((seen_of c.args.self.now).task p.now).status ≡ Waiting → ⊥) c.loop-t.yielded c.in-Some.t c.loop-t.invariant
    (λ w. false≢true (sym c.if-is_waiting.false ∙ c.is_waiting.ensures.1 (ap (λ z. z.status) c.task.ensures ∙ w)))
