-- Each step of a call is a line of the table, and the call goes on with it.
use Rattle.std.proofs.Common.{◌≡◌, ℕ, Bool, Option, refl}
use Rattle.std.specs.Prelude.{⊤}
use Rattle.pagebook.specs.Slot.{Placed}
use Rattle.once_machine.specs.Steps.{SideTells}
use Rattle.once_machine.specs.Table.{Advances}
use Rattle.once_machine.specs.declared.step.Progress.TheVariants.{More}
use Rattle.once_machine.specs.declared.step.Progress.{Progress}
use Rattle.once_machine.specs.declared.step.Place.{Place}
use Rattle.once_machine.specs.declared.step.Step.{Step}
use Rattle.once_machine.specs.declared.step.Step.TheVariants.{UnderWay}
use Rattle.once_machine.specs.declared.step.Place.TheVariants.{Put as AtPut}
use Rattle.async_once_cell.specs.Inner.Own.{Own}
use Rattle.async_once_cell.specs.Walks.{Stands}
use Rattle.async_once_cell.specs.Inner.Parts.{parts_did}
use Rattle.async_once_cell.specs.Inner.Sides.{IsTold, Sided}
use Rattle.async_once_cell.proofs.Walk.Parts.{Went}
use Rattle.async_once_cell.proofs.Walk.Lines.{ShownAt, line_went}

-- if no value is put, nothing shows one
no_put : {W : Type 0} (at : Place W ⊤) (y : Sided) → ((by : Option ⊤) → UnderWay at ≡ UnderWay (AtPut by) → ⊥) → ShownAt at y
no_put (AtPut by) y apart = absurd (apart by refl)
no_put at y apart = tt

module _ {P S W : Type 0} (cell : P → Placed) (own : P → Own) {whose : W → ℕ} {state : S → Sided} {side : SideTells S W} (tells : IsTold whose state side) (drops : Bool) where
  -- one step of a call that goes on, and puts no value
  pub step_went : {p p' : P} {s s' : S} {r r0 : Progress} {t : Step W ⊤} (at : Step W ⊤) → ((by : Option ⊤) → at ≡ UnderWay (AtPut by) → ⊥) → Stands whose drops (state s) (own p) r0 at
      → Advances (parts_did cell own whose) side at p s r t p' s' → (r0 ≡ More) × Went cell own whose state drops p s r p' s' t
  step_went {s' = s'} (UnderWay at) apart is line = (is.fits.0, line_went cell own tells drops at (no_put at (state s') apart) is line)
  step_went _ apart is line = absurd line
