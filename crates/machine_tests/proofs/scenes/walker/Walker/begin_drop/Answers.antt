-- A task that rests begins a drop, and stands at its beginning if it has steps to make.
use Rattle.std.proofs.Common.{◌≡◌, true, Some, None, ◌∙◌, ap, sym}
use Rattle.std.proofs.lemmas.Bool.{false≢true}
use Rattle.std.specs.Prelude.{⊤}
use Rattle.once_machine.specs.Steps.{is_resting, step_of_drop}
use Rattle.once_machine.specs.declared.step.Step.TheVariants.{Finished, Resting, UnderWay}
use Rattle.once_machine.specs.declared.step.Rest.TheVariants.{Run as RestRun, Start as RestStart, Wait as RestWait}
use Rattle.once_machine.specs.declared.step.Step.{Step}
use Rattle.async_once_cell.specs.Inner.Sides.{Sided}
use Rattle.async_once_cell.proofs.Walk.Begins.{stands_closed}
use Rattle.machine_tests.proofs.scenes.walker.Walker.begin_drop.Goals as goal

-- a task whose drop has begun rests no more
never_rests : {W : Type 0} (s : Step W ⊤) → is_resting (step_of_drop s) ≡ true → ⊥
never_rests (Resting RestStart) h = false≢true h
never_rests (Resting (RestWait q None)) h = false≢true h
never_rests (Resting (RestWait q (Some n))) h = false≢true h
never_rests (Resting (RestRun None)) h = false≢true h
never_rests (Resting (RestRun (Some q))) h = false≢true h
never_rests (UnderWay p) h = false≢true h
never_rests Finished h = false≢true h

pub invariant_of-self : goal.invariant_of-self
invariant_of-self g c =
    let task = c.args.self.now in
    let rests : is_resting task.step ≡ true = sym c.is_resting.ensures ∙ c.if-not-is_resting.false in
    let number = ap (λ (x : Sided). x.number) c.begin.ensures ∙ task.same in
    record {
      same = ap (λ (x : Sided). x.number) c.begin_drop-2.ensures.close ∙ number ∙ sym c.begin_drop.ensures.did.number;
      goes = λ h.
          stands_closed {whose = λ b. b.mark.value} c.begin.new.self task.step c.begin_drop-2.ensures.close c.begin_drop-2.ensures.step
          (number, ap (λ (x : Sided). x.woke) c.begin.ensures) (rests, task.rests rests) c.begin_drop.ensures.did h;
      rests = λ h. absurd (never_rests task.step (ap is_resting (sym c.begin_drop-2.ensures.step) ∙ h));
      has_init = λ h. absurd (never_rests task.step (ap is_resting (sym c.begin_drop-2.ensures.step) ∙ h));
    }
