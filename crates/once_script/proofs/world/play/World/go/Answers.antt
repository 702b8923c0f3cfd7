-- A step that is made is the machine's.
use Rattle.std.proofs.Common.{rules, ◌≡◌, ℕ, Bool, Some, true, refl, ap, ◌∙◌, arith, nat_cmp, ◌++◌}
use Rattle.std.specs.BTreeMap.{get}
use Rattle.std.proofs.lemmas.Result.{on_ok_weaker}
use Rattle.once_machine.specs.Steps.{in_call}
use Rattle.once_machine.specs.Machine.{SharedState, Outcome, advance, unfinished_after, step_lines}
use Rattle.once_machine.specs.Shown.{history_in}
use Rattle.once_script.specs.WorldShown.{world_in, shared_of, log_in}
use Rattle.once_script.proofs.Exactness.Worlds.{tasks_written, stepped_world}
use Rattle.once_script.proofs.world.play.World.go.Goals as goal

pub returns-clause-world : goal.returns-clause-world
returns-clause-world c =
    let found : get nat_cmp c.args.self.now.tasks c.args.t ≡ Some c.in-Some.task.now = search rules in
    let calls : in_call c.in-Some.task.now.step ≡ true = grind (arith, c.left.ensures.idle) in
    let y = c.advance-seen.new.task in
    let tasks = tasks_written c.args.self.now.tasks (c.get_mut.follows.lender y) _ _ y found (c.get_mut.follows.holds y) in
    let seen = c.advance-seen.ensures in
    let told_by : SharedState → Outcome = λ i. advance c.args.self.now.shared.side.lazy c.args.self.now.shared.core.limit i c.args.t c.in-Some.task.now c.args.answer c.args.granted in
    let by : Bool → ℕ → SharedState → Outcome = λ lazy limit i. advance lazy limit i c.args.t c.in-Some.task.now c.args.answer c.args.granted in
    let same : by c.reserve.new.self.side.lazy c.reserve.new.self.core.limit (shared_of c.reserve.new.self) ≡ told_by
    (shared_of c.args.self.now.shared) = ap (λ l. by l c.reserve.new.self.core.limit (shared_of c.reserve.new.self))
    (ap (λ z. z.lazy) c.in_ok-reserve.ensures.side) ∙ ap
    (λ l. by c.args.self.now.shared.side.lazy l (shared_of c.reserve.new.self)) c.in_ok-reserve.ensures.limit ∙ ap
    (by c.args.self.now.shared.side.lazy c.args.self.now.shared.core.limit) c.in_ok-reserve.ensures.shared in
    on_ok_weaker c.record_step.result
    (λ h. stepped_world c.args.self.now.shared.side.lazy c.args.self.now.shared.core.limit (world_in c.args.self.now) _ c.args.t c.args.answer c.args.granted c.in-Some.task.now y
    (told_by (shared_of c.args.self.now.shared)) (step_lines c.args.granted (shared_of c.args.self.now.shared) c.in-Some.task.now.step)
    refl refl found calls
    (seen.shared c.args.t ∙ ap (λ o. o.shared) same) seen.waker (seen.step c.args.t ∙ ap (λ o. o.step) same) (seen.kept c.args.t ∙ ap (λ o. o.kept) same) tasks
    (c.still_unfinished-self.ensures ∙ ap (λ z. unfinished_after z c.args.self.now.unfinished)
    (seen.step c.args.t ∙ ap (λ o. o.step) same)) (h
    ∙ ap (λ e. e ++ history_in c.args.self.now.entries.items) (seen.seen c.args.t ∙ ap (λ o. o.entries) same))
    (seen.log ∙ ap (λ i. step_lines c.args.granted i c.in-Some.task.now.step
    ++ log_in c.reserve.new.self) c.in_ok-reserve.ensures.shared
    ∙ ap (λ l. step_lines c.args.granted (shared_of c.args.self.now.shared) c.in-Some.task.now.step
    ++ l) c.in_ok-reserve.ensures.log))
    c.record_step.ensures
