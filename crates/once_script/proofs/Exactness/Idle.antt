-- Steps of a task without a call under way change nothing.
use Rattle.std.proofs.Common.{◌≡◌, ◌≤◌, ◌+◌, ◌-◌, ◌++◌, ℕ, suc, zero, Bool, List, Option, refl, sym, ap, ◌∙◌, arith, replicate, subst}
use Rattle.std.proofs.lemmas.List.{append_assoc, replicate-append-replicate}
use Rattle.std.proofs.lemmas.Grind.{common_steps}
use Rattle.once_script.specs.declared.world.play.World.{World as CodeWorld}
use Rattle.once_machine.specs.Inputs.{Go, Input}
use Rattle.once_machine.specs.Machine.{IsIdle, World, go_world, world_of}
use Rattle.once_machine.specs.declared.task.Task.{Task}
use Rattle.once_script.specs.Reached.{IsAfter}
use Rattle.once_machine.specs.Record.{Kind, is_lazy}
use Rattle.once_machine.specs.declared.record.Ran.{Ran as Answer}
use Rattle.once_script.specs.WorldShown.{world_in}

passed_over : (lazy : Bool) (limit : ℕ) (w : World) (t : ℕ) (a : Answer) (granted : Bool) (x : Option Task) → IsIdle x → go_world lazy limit w t a granted x ≡ w
passed_over lazy limit w t a granted x idle = grind (arith, common_steps)

module _ (K : Kind) (limit t : ℕ) (a : Answer) (granted : Bool) where
  idle_steps : (inputs : List Input) → IsIdle ((world_of K limit inputs).tasks t) → (n : ℕ)
      → world_of K limit (replicate n (Go t a granted) ++ inputs) ≡ world_of K limit inputs
  idle_steps inputs idle zero = refl
  idle_steps inputs idle (suc n) =
      let before = world_of K limit inputs in
      ap (λ w. go_world (is_lazy K) limit w t a granted (w.tasks t)) (idle_steps inputs idle n) ∙ passed_over (is_lazy K) limit before t a granted (before.tasks t) idle

  -- a world that stands after k steps stands after n, if no call is under way after k
  pub rest_passed_over : (inputs : List Input) (w : CodeWorld) (k n : ℕ) → k ≤ n
      → IsAfter K limit (replicate k (Go t a granted) ++ inputs) w → IsIdle ((world_in w).tasks t)
      → IsAfter K limit (replicate n (Go t a granted) ++ inputs) w
  rest_passed_over inputs w k n within is idle =
      let step = Go t a granted in
      let so_far = replicate k step ++ inputs in
      let all : n ≡ (n - k) + k = omega arith in
      let apart : replicate n step ++ inputs ≡ replicate (n - k) step ++ so_far =
      ap (λ l. l ++ inputs) (ap (λ m. replicate m step) all ∙ sym (replicate-append-replicate (n - k) k step)) ∙ append_assoc (replicate (n - k) step) (replicate k step) inputs in
      let same : world_of K limit (replicate n step ++ inputs) ≡ world_of K limit so_far =
      ap (world_of K limit) apart ∙ idle_steps so_far (subst (λ v. IsIdle (v.tasks t)) is.world idle) (n - k) in
      record { world = is.world ∙ sym same; lazy = is.lazy; bound = is.bound; some = is.some; within = is.within }
