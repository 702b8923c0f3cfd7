-- How a poll of an init answers, and which values and errors an init may give.
use Rattle.std.specs.Prelude.{◌≡◌, ℕ, ⊤, List, Option, Result, Ok, Err, IfErr, IsSomeAnd}
use Rattle.futures.specs.declared.task.Poll.{Poll}
use Rattle.futures.specs.declared.task.Poll.TheVariants.{Pending as PollPending, Ready}
use Rattle.once_machine.specs.declared.step.Polled.{Polled}
use Rattle.once_machine.specs.declared.step.Polled.TheVariants.{Pending, Value, Error}
use Rattle.once_machine.specs.declared.step.Ending.TheVariants.{Error as EndError}
use Rattle.once_machine.specs.declared.step.Ending.{Ending}
use Rattle.async_once_cell.specs.declared.error.InitError.{InitError}
use Rattle.async_once_cell.specs.declared.error.InitError.TheVariants.{Init}

-- the answer in the words of a step
abbrev pub polled_in : {T E : Type 0} → Poll (Result T E) → Polled
polled_in PollPending = Pending
polled_in (Ready (Ok x)) = Value
polled_in (Ready (Err e)) = Error

module _ {I X : Type 0} (may_give : I → X → Type 0) where
  -- the init is there, and may give this: a value or, if the relation says so, an error
  abbrev pub MayGive : Option I → X → Type 0
  MayGive init x = IsSomeAnd init (λ i. may_give i x)

  -- what is left of an init gives nothing that it could not give before
  abbrev pub GivesNoOther : Option I → Option I → Type 0
  GivesNoOther old new = (x : X) → MayGive new x → MayGive old x

  -- an error that is told of an init is one that this init may give
  abbrev pub TellsOwn : (X → Ending) → {A : Type 0} → Option I → Result A X → Type 0
  TellsOwn ending init r = IfErr r (λ x. ending x ≡ EndError → MayGive init x)

  -- each value that the init may give fits what is promised about these numbers
  abbrev pub InitFits : (List ℕ → X → Type 0) → Option I → List ℕ → Type 0
  InitFits fits init about = (x : X) → MayGive init x → fits about x

-- what holds of the error that a poll tells of its init
abbrev pub IfInit : {E : Type 0} → InitError E → (E → Type 0) → Type 0
IfInit (Init e) P = P e
IfInit _ P = ⊤
