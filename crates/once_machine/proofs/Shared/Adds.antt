-- The entries of a step are entries of its task, two at most.
use Rattle.std.proofs.Common.{ℕ, Bool, List, Option, arith}
use Rattle.std.proofs.lemmas.Bool.Decides.{nat_tests}
use Rattle.std.proofs.lemmas.Grind.{common_steps}
use Rattle.once_machine.specs.Record.{Kind, is_lazy}
use Rattle.once_machine.specs.declared.record.Ran.{Ran as Answer}
use Rattle.once_machine.specs.Inputs.{AreOfStep, IsAsked, IsOfStep}
use Rattle.once_machine.specs.Machine.{SharedState, end_entry, init_answer, place_step, step_at}
use Rattle.once_machine.specs.declared.step.Place.TheVariants.{Start as AtStart}
use Rattle.once_machine.specs.declared.step.Ending.{Ending}
use Rattle.once_machine.specs.declared.step.Place.{Place}
use Rattle.once_machine.specs.declared.step.Step.{Step}
use Rattle.once_machine.specs.declared.step.Step.TheVariants.{UnderWay}

-- the last entry of a call is of its task
last_part : (K : Kind) (t : ℕ) (a : Answer) (v : ℕ) (k : Answer) (e : Ending) → IsOfStep K t a (end_entry e t v k)
last_part K t a v k e = grind (arith, nat_tests, common_steps)

-- an init that is asked in a step answers what the Go says, or what its list has next
asked_so : (K : Kind) (l : List (Option ℕ)) (a : Answer) → IsAsked K a (init_answer (is_lazy K) l a)
asked_so K l a = grind (arith, nat_tests, common_steps)

module _ (K : Kind) (c : SharedState) (t : ℕ) (k a : Answer) (limit w : ℕ) (g : Bool) where
  -- the entries of a step at each place; `grind` goes through them
  part_at : (p : Place ℕ ℕ) → AreOfStep K t a (place_step (is_lazy K) limit c t w k a g p).entries
  part_at AtStart = grind (arith, nat_tests, common_steps)
  part_at p = grind (arith, nat_tests, common_steps)

  -- the entries of a step
  pub step_part : (s : Step ℕ ℕ) → AreOfStep K t a (step_at (is_lazy K) limit c t w k a g s).entries
  step_part (UnderWay p) = part_at p
  step_part s = tt
