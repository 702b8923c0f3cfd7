-- One step of a task is one step of the machine.
use Rattle.std.proofs.Common.{◌≡◌, ℕ, refl, ap, ◌∙◌, ◌++◌, arith, reverse}
use Rattle.std.proofs.lemmas.Grind.{common_steps}
use Rattle.once_script.specs.Core.{CoreState, state_of}
use Rattle.once_machine.specs.Machine.{Outcome, advance as outcome, step_lines}
use Rattle.once_script.proofs.Exactness.Outcomes.{IsSetUp, shared_by, is_freed}
use Rattle.once_script.proofs.Exactness.Exact.{advance_exact}
use Rattle.once_script.proofs.world.cell.ReplayCell.advance.Goals as goal
use Rattle.once_script.proofs.world.cell.ReplayCell.advance.Goals.{then-freeing, else-freeing}

pub returns : goal.returns
returns c =
    let granted_to : CoreState ℕ → CoreState ℕ = λ s. record s { granted = c.args.granted } in
    let state = c.grant.ensures.state ∙ ap granted_to c.set_waker.ensures.state in
    let set_up : IsSetUp _ _ = record {
      bare = c.grant.new.self.bare;
      current = ap (λ s. s.current) state;
      granted = ap (λ s. s.granted) state;
      ran = refl;
      handed = refl;
    } in
    let x = advance_exact (λ p. state_of p) _ _ _ _ _ _ _ set_up c.advance-progress.ensures.line in
    let told_by : CoreState ℕ → ℕ → Outcome = λ s t. outcome c.args.self.now.side.lazy s.limit (shared_by s c.args.self.now.side) t c.args.task.now c.args.answer c.args.granted in
    let was = c.is_freeing-freeing.ensures in
    let freed : c.if-freeing.result ≡ is_freed c.args.task.now.step c.advance-progress.new.self = elim c.if-freeing.branch [
      | then-freeing w ↦ let on = w.if-freeing.true in let adds = w.is_adding.ensures in let is = w.result-is in grind (arith, common_steps, was, on, adds, is)
      | else-freeing w ↦ let off = w.if-freeing.false in let is = w.result-is in grind (arith, common_steps, was, off, is)
    ] in
    record {
      shared = λ t. x.shared t ∙ ap (λ s. (told_by s t).shared) state;
      step = λ t. x.step t ∙ ap (λ s. (told_by s t).step) state;
      kept = λ t. x.kept t ∙ ap (λ s. (told_by s t).kept) state;
      waker = refl;
      seen = λ t. rw (c.is_running.ensures, c.is_leaving-leaving.ensures, c.take.ensures.value, c.take-2.ensures.value, freed) (x.told t ∙ ap (λ s. (told_by s t).entries) state);
      log = x.log ∙ ap (λ s. step_lines c.args.granted (shared_by s c.args.self.now.side) c.args.task.now.step ++ reverse s.log) state;
      lazy = x.lazy_is;
      limit = x.limit ∙ ap (λ s. s.limit) state;
    }
