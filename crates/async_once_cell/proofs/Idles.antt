-- What a task is at between two calls, and the step that stands for it.
use Rattle.std.proofs.Common.{◌≡◌, true, false, refl, sym}
use Rattle.std.proofs.lemmas.Bool.{false≢true}
use Rattle.once_machine.specs.Steps.{in_call, is_resting}
use Rattle.once_machine.specs.declared.step.Step.TheVariants.{Finished as Ended}
use Rattle.async_once_cell.specs.Inner.Idle.{is_over, step_of}
use Rattle.async_once_cell.specs.declared.inner.task.Idle.{Idle}
use Rattle.async_once_cell.specs.declared.inner.task.Idle.TheVariants.{New, Listed, Unlisted, Quick, Queued, Finished}

module _ (W : Type 0) where
  -- no call is under way
  pub not_in_call : (i : Idle) → in_call (step_of {W = W} i) ≡ false
  not_in_call New = refl
  not_in_call (Listed n) = refl
  not_in_call Unlisted = refl
  not_in_call Quick = refl
  not_in_call Queued = refl
  not_in_call Finished = refl

  -- a task that is not finished rests
  pub rests : (i : Idle) → is_over i ≡ false → is_resting (step_of {W = W} i) ≡ true
  rests New live = refl
  rests (Listed n) live = refl
  rests Unlisted live = refl
  rests Quick live = refl
  rests Queued live = refl
  rests Finished live = absurd (false≢true (sym live))

  -- one that rests is not finished
  pub live : (i : Idle) → is_resting (step_of {W = W} i) ≡ true → is_over i ≡ false
  live New is = refl
  live (Listed n) is = refl
  live Unlisted is = refl
  live Quick is = refl
  live Queued is = refl
  live Finished is = absurd (false≢true is)

  -- the step of one that is finished
  pub over : (i : Idle) → step_of {W = W} i ≡ Ended → is_over i ≡ true
  over New is = let no : ⊥ = cc in absurd no
  over (Listed n) is = let no : ⊥ = cc in absurd no
  over Unlisted is = let no : ⊥ = cc in absurd no
  over Quick is = let no : ⊥ = cc in absurd no
  over Queued is = let no : ⊥ = cc in absurd no
  over Finished is = refl
