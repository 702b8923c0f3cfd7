-- That a call has come so far is a proposition: at each place it is made of equations.
use Rattle.std.specs.Prelude.{◌≡◌, ℕ, Bool, true, false, ⊤}
use Rattle.std.specs.Coded.{Π_prop}
use Rattle.std.proofs.Props.{props}
use Rattle.std.proofs.lemmas.Bool.{false≢true}
use Rattle.once_machine.specs.Steps.{in_call}
use Rattle.once_machine.specs.declared.step.Ending.{Ending}
use Rattle.once_machine.specs.declared.step.Ending.TheVariants.{Dropped as EndDropped, Error as EndError}
use Rattle.once_machine.specs.declared.step.Ending.TheVariants.{Full as EndFull, Memory as EndMemory}
use Rattle.once_machine.specs.declared.step.Ending.TheVariants.{Pending as EndPending, Value as EndValue}
use Rattle.once_machine.specs.declared.step.Step.TheVariants.{Finished, Resting, UnderWay}
use Rattle.once_machine.specs.declared.step.Place.{Place}
use Rattle.once_machine.specs.declared.step.Progress.{Progress}
use Rattle.once_machine.specs.declared.step.Step.{Step}
use Rattle.once_machine.specs.declared.step.Place.TheVariants.{AddOne as AtAddOne, CountIn as AtCountIn}
use Rattle.once_machine.specs.declared.step.Place.TheVariants.{CountOut as AtCountOut, DoorAgain as AtDoorAgain}
use Rattle.once_machine.specs.declared.step.Place.TheVariants.{DoorGet as AtDoorGet}
use Rattle.once_machine.specs.declared.step.Place.TheVariants.{DoorPut as AtDoorPut, DoorTake as AtDoorTake}
use Rattle.once_machine.specs.declared.step.Place.TheVariants.{Fast as AtFast}
use Rattle.once_machine.specs.declared.step.Place.TheVariants.{Leave as AtLeave, List as AtList, Look as AtLook}
use Rattle.once_machine.specs.declared.step.Place.TheVariants.{Put as AtPut, Release as AtRelease, Run as AtRun}
use Rattle.once_machine.specs.declared.step.Place.TheVariants.{Start as AtStart, TryQuick as AtTryQuick}
use Rattle.once_machine.specs.declared.step.Place.TheVariants.{WaitLoad as AtWaitLoad}
use Rattle.async_once_cell.specs.Inner.Own.{Own}
use Rattle.async_once_cell.specs.Inner.Sides.{Sided}
use Rattle.async_once_cell.specs.Walks.{FitsAt, MayEnd, Stands}

module _ (x : Sided) (v : Own) where
  MayEnd-prop : (drops : Bool) (e : Ending) → IsProp (MayEnd drops x v e)
  MayEnd-prop true EndDropped = hlevel props
  MayEnd-prop true EndPending = hlevel props
  MayEnd-prop true EndValue = hlevel props
  MayEnd-prop true EndError = hlevel props
  MayEnd-prop true EndMemory = hlevel props
  MayEnd-prop true EndFull = hlevel props
  MayEnd-prop false EndDropped = hlevel props
  MayEnd-prop false EndPending = hlevel props
  MayEnd-prop false EndValue = hlevel props
  MayEnd-prop false EndError = hlevel props
  MayEnd-prop false EndMemory = hlevel props
  MayEnd-prop false EndFull = hlevel props

  FitsAt-prop : {W : Type 0} (drops : Bool) (p : Place W ⊤) → IsProp (FitsAt drops x v p)
  FitsAt-prop drops AtStart = hlevel props
  FitsAt-prop drops AtTryQuick = hlevel props
  FitsAt-prop drops AtDoorGet = hlevel props
  FitsAt-prop drops AtDoorPut = hlevel props
  FitsAt-prop drops (AtCountIn q) = hlevel props
  FitsAt-prop drops (AtWaitLoad q k) = hlevel props
  FitsAt-prop drops (AtLook q k) = hlevel props
  FitsAt-prop drops (AtList q k w) = hlevel props
  FitsAt-prop drops (AtRun by) = hlevel props
  FitsAt-prop drops (AtPut by) = hlevel props
  FitsAt-prop drops (AtFast e) = hlevel (MayEnd-prop, props)
  FitsAt-prop drops (AtAddOne e) = hlevel (MayEnd-prop, props)
  FitsAt-prop drops (AtDoorAgain e) = hlevel (MayEnd-prop, props)
  FitsAt-prop drops (AtRelease q e) = hlevel (MayEnd-prop, props)
  FitsAt-prop drops (AtLeave q n e) = hlevel (MayEnd-prop, props)
  FitsAt-prop drops (AtCountOut e) = hlevel (MayEnd-prop, props)
  FitsAt-prop drops (AtDoorTake e) = hlevel (MayEnd-prop, props)

  -- a call that is under way has come so far
  abbrev pub Goes : {W : Type 0} → (W → ℕ) → Bool → Progress → Step W ⊤ → Type 0
  Goes whose drops r s = in_call s ≡ true → Stands whose drops x v r s

  pub Goes-prop : {W : Type 0} (whose : W → ℕ) (drops : Bool) (r : Progress) (s : Step W ⊤)
      → IsProp (Goes whose drops r s)
  Goes-prop whose drops r (UnderWay p) = hlevel (FitsAt-prop, props)
  Goes-prop whose drops r (Resting rest) = Π_prop (λ h. absurd (false≢true h))
  Goes-prop whose drops r Finished = Π_prop (λ h. absurd (false≢true h))
