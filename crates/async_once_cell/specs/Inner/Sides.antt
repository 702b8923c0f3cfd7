-- What is told of a task's own side: whether its init is there and gave something, whether it was shown its value in
-- the cell, and which wakers were handed to it.
use Rattle.std.specs.Prelude.{◌≡◌, ◌||◌, ℕ, Bool, true, false, List, [], Option, IfSome}
use Rattle.pagebook.specs.Slot.{Placed}
use Rattle.once_machine.specs.declared.step.Polled.{Polled}
use Rattle.once_machine.specs.declared.step.Polled.TheVariants.{Pending, Value, Error}
use Rattle.once_machine.specs.declared.step.Out.{Out}
use Rattle.once_machine.specs.Steps.{SideTells}
use Rattle.async_once_cell.specs.Inner.Named.{named_out}

-- a side
pub record Sided : Type 0 where
  pub number : ℕ  -- the number of its task
  pub has_init : Bool  -- whether its init is there
  pub has_value : Bool  -- whether it has a value that the init gave
  pub has_error : Bool  -- whether it has an error that the init gave
  pub has_shown : Bool  -- whether it has what shows that the value which the init gave is the cell's
  pub woke : List ℕ  -- the tasks whose wakers were handed to it in this call

-- the side told of a poll of its init: a value or an error that it told is there
pub record HasRun (x : Sided) (a : Polled) (y : Sided) : Type 0 where
  pub number : y.number ≡ x.number  -- the task is the same
  pub woke : y.woke ≡ x.woke  -- nobody was handed out
  pub init : a ≡ Pending → y.has_init ≡ x.has_init  -- an init that is pending stays there
  pub value : a ≡ Value → y.has_value ≡ true  -- the value that the init gave is there
  pub none : (a ≡ Value → ⊥) → y.has_value ≡ x.has_value  -- if it gave none, there is none but what was there
  pub shown : y.has_shown ≡ x.has_shown  -- it was shown no value
  pub error : a ≡ Error → y.has_error ≡ true  -- the error that the init gave is there

-- its init gave a value in this call, which is there still or was put
abbrev pub has_given : Sided → Bool
has_given x = x.has_value || x.has_shown

-- a poll may begin: the init is there, and gave no value yet
abbrev pub IsReady : Sided → Type 0
IsReady x = (x.has_init ≡ true) × (x.has_value ≡ false) × (x.has_shown ≡ false)

-- the init was dropped
abbrev pub HasClosed : Sided → Sided → Type 0
HasClosed x y = y ≡ record x { has_init = false }

-- the value was handed over
pub record HasPut (x y : Sided) : Type 0 where
  pub number : y.number ≡ x.number  -- the task is the same
  pub woke : y.woke ≡ x.woke  -- nobody was handed out
  pub error : y.has_error ≡ x.has_error  -- an error stays there
  pub value : y.has_value ≡ false  -- it is not there any more

module _ {W : Type 0} (whose : W → ℕ) where
  -- the waker was copied: it is the task's own
  abbrev pub HasCopied : Sided → Option W → Sided → Type 0
  HasCopied x c y = (y ≡ x) × IfSome c (λ w. whose w ≡ x.number)

  -- the first to be handed to it in this call were these
  abbrev pub HasWoken : Sided → Out W → Sided → Type 0
  HasWoken x out y = x.woke ≡ [] → y ≡ record x { woke = named_out whose out }

-- each value that the side may hand over fits what is promised of the value of the cell, and the side may be shown it
-- in the slot of this cell
abbrev pub GivesFit : {S T : Type 0} → (S → T → Type 0) → (S → ℕ → Type 0) → (List ℕ → T → Type 0) → S → Placed → Type 0
GivesFit hands has_slot fits side cell = (value : _) → hands side value → fits cell.about value × has_slot side cell.id

module _ {S W : Type 0} (whose : W → ℕ) (state : S → Sided) where
  -- what the calls of such a side tell
  abbrev pub sided_tells : SideTells S W
  sided_tells = record {
    run = λ s a t. HasRun (state s) a (state t);
    close = λ s t. HasClosed (state s) (state t);
    put = λ s t. HasPut (state s) (state t);
    copy = λ s c t. HasCopied whose (state s) c (state t);
    wake = λ s out t. HasWoken whose (state s) out (state t);
  }

  -- a side tells this of each of its calls
  pub record IsTold (side : SideTells S W) : Type 0 where
    pub run : (s : S) (a : Polled) (t : S) → side.run s a t → HasRun (state s) a (state t)
    pub close : (s t : S) → side.close s t → HasClosed (state s) (state t)
    pub put : (s t : S) → side.put s t → HasPut (state s) (state t)
    pub copy : (s : S) (c : Option W) (t : S) → side.copy s c t → HasCopied whose (state s) c (state t)
    pub wake : (s : S) (out : Out W) (t : S) → side.wake s out t → HasWoken whose (state s) out (state t)
