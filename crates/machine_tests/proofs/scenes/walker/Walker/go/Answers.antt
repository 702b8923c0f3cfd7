-- The task stood before the step, and so it stands after it. If it rests then, its init is there.
use Rattle.std.proofs.Common.{◌≡◌, Bool, true, arith, sym, subst}
use Rattle.std.specs.Prelude.{⊤}
use Rattle.std.proofs.lemmas.Bool.{false≢true}
use Rattle.async_once_cell.specs.Inner.Own.{Own}
use Rattle.once_machine.specs.Steps.{in_call, is_resting}
use Rattle.once_machine.specs.declared.step.Step.TheVariants.{Finished, Resting, UnderWay}
use Rattle.once_machine.specs.declared.step.Progress.{Progress}
use Rattle.once_machine.specs.declared.step.Step.{Step}
use Rattle.async_once_cell.specs.Inner.Shares.{own}
use Rattle.async_once_cell.specs.Inner.Sides.{IsReady, Sided}
use Rattle.async_once_cell.specs.Walks.{Fits, Stands}
use Rattle.machine_tests.proofs.scenes.walker.Walker.go.Goals as goal

-- a task that rests after a step has its init
init_at_rest : {W : Type 0} (drops : Bool) (x : Sided) (v : Own) (r : Progress) (s : Step W ⊤) → is_resting s ≡ true → Fits drops x v r s → IsReady x
init_at_rest drops x v r (Resting rest) rests fits = fits.1.1
init_at_rest drops x v r (UnderWay p) rests fits = absurd (false≢true rests)
init_at_rest drops x v r Finished rests fits = absurd (false≢true rests)

pub invariant_of-self : goal.invariant_of-self
invariant_of-self g c =
    let task = c.args.self.now in
    let call : in_call task.step ≡ true = grind (arith, c.left.ensures.idle, c.if-left-eq0.false) in
    let before = subst (λ x. Stands (λ b. b.mark.value) task.is_drop x (own task.parts) task.told task.step) (sym c.answers.ensures) (task.goes call) in
    let after = c.one_step-self.ensures.stands task.is_drop before in
    record {
      same = after.number;
      goes = λ h. after;
      rests = λ h. after.step;
      has_init = λ h. init_at_rest task.is_drop _ _ _ _ h after.fits;
    }
