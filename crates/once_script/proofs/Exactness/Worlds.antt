-- The world of a replay after an input is the machine's.
use Rattle.std.proofs.Common.{◌≡◌, ℕ, Bool, true, false, cond, List, [], ◌∷◌, ◌++◌, Some, IsSome, refl, ap, ◌∙◌, arith}
use Rattle.std.specs.Ordering.{nat_cmp}
use Rattle.std.specs.Cmp.{unsigned_tied}
use Rattle.std.specs.BTreeMap.{BTreeMap, get, WritesThrough}
use Rattle.std.proofs.lemmas.Grind.{common_steps}
use Rattle.once_machine.specs.Record.{Begin, DropBegin}
use Rattle.once_machine.specs.declared.record.Ran.{Ran as Answer}
use Rattle.once_machine.specs.declared.step.Step.{Step}
use Rattle.once_machine.specs.declared.step.Step.TheVariants.{Finished}
use Rattle.once_machine.specs.Steps.{is_resting, in_call, step_of_poll, step_of_drop}
use Rattle.once_machine.specs.Machine.{Outcome, World, put_task, poll_world, drop_world, drop_entries, unfinished_after, advance, step_lines, go_world}
use Rattle.once_machine.specs.declared.task.Task.{Task}
use Rattle.once_machine.specs.declared.log.QueueLine.{QueueLine}

-- a map in which y was written over x at t, as a function from numbers to tasks
pub tasks_written : (m n : BTreeMap ℕ Task) (t : ℕ) (x y : Task) → get nat_cmp m t ≡ Some x → WritesThrough nat_cmp (nat_cmp t) m y n
    → (λ u. get nat_cmp n u) ≡ put_task t y (λ u. get nat_cmp m u)
tasks_written m n t x y found d =
    let there : IsSome (get nat_cmp m t) = rw found refl in
    let k = d.3 there in
    λ i. λ u. let e : get nat_cmp n u ≡ put_task t y (λ v. get nat_cmp m v) u = k.0 u ∙ ap (λ b. cond b (Some y) (get nat_cmp m u)) (unsigned_tied t u) in e i

-- a poll that began
pub begun_world : (w w' : World) (t k : ℕ) (x : Task) (s : Step ℕ ℕ) → w.tasks t ≡ Some x → is_resting x.step ≡ true
    → s ≡ step_of_poll x.step → w'.shared ≡ w.shared → w'.tasks ≡ put_task t (record x { waker = k; step = s }) w.tasks
    → w'.unfinished ≡ w.unfinished → w'.history ≡ Begin t k ∷ w.history → w'.log ≡ w.log
    → w' ≡ poll_world w t k (w.tasks t)
begun_world w w' t k x s found rests is a b n c d = grind (arith, common_steps)

-- a drop that began
pub dropped_world : (w w' : World) (t : ℕ) (x : Task) (s : Step ℕ ℕ) → w.tasks t ≡ Some x → is_resting x.step ≡ true
    → s ≡ step_of_drop x.step → w'.shared ≡ w.shared → w'.tasks ≡ put_task t (record x { step = s }) w.tasks
    → w'.unfinished ≡ unfinished_after s w.unfinished → w'.history ≡ drop_entries t s ++ w.history → w'.log ≡ w.log
    → w' ≡ drop_world w t (w.tasks t)
dropped_world w w' t x s found rests is a b n c d = grind (arith, common_steps)

-- a drop that goes on is recorded as begun only
pub drop_goes_on : (t : ℕ) (s : Step ℕ ℕ) → in_call s ≡ true → drop_entries t s ≡ DropBegin t ∷ []
drop_goes_on t s e = grind (arith, common_steps)

-- a drop without a step ends there
pub drop_ends : (s : Step ℕ ℕ) → is_resting s ≡ true → in_call (step_of_drop s) ≡ false → step_of_drop s ≡ Finished
drop_ends s rests e = grind (arith, common_steps)

-- a step that was made, with the outcome o and these lines of the log
pub stepped_world : (lazy : Bool) (limit : ℕ) (w w' : World) (t : ℕ) (a : Answer) (granted : Bool) (x y : Task) (o : Outcome)
    (lines : List QueueLine) → o ≡ advance lazy limit w.shared t x a granted → lines ≡ step_lines granted w.shared x.step
    → w.tasks t ≡ Some x → in_call x.step ≡ true
    → w'.shared ≡ o.shared → y.waker ≡ x.waker → y.step ≡ o.step → y.kept ≡ o.kept → w'.tasks ≡ put_task t y w.tasks
    → w'.unfinished ≡ unfinished_after o.step w.unfinished → w'.history ≡ o.entries ++ w.history → w'.log ≡ lines ++ w.log
    → w' ≡ go_world lazy limit w t a granted (w.tasks t)
stepped_world lazy limit w w' t a granted x y o lines is line found calls i waker step kept b n c d = grind (arith, common_steps)
