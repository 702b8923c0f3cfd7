-- What a polling task's side tells, and what each of its calls keeps.
-- The context's poll goes on, a side that says that its task is to be woken is right, and an error or a value is the
-- init's own.
use Rattle.std.specs.Prelude.{◌≡◌, true, false, [], ◌∷◌, IfSome}
use Rattle.std.specs.Option.{is_some}
use Rattle.futures.specs.Task.{IsArmed, Keeps}
use Rattle.async_once_cell.specs.Inner.Named.{named_out}
use Rattle.async_once_cell.specs.Inner.Sides.{Sided}
use Rattle.async_once_cell.specs.declared.attempt.PollSide.{PollSide}
use Rattle.async_once_cell.specs.declared.attempt.LeaveSide.{LeaveSide}
use Rattle.async_once_cell.specs.Inits.{GivesNoOther, MayGive}
use Rattle.async_once_cell.specs.declared.waker.ListedWaker.{ListedWaker}
use Rattle.async_once_cell.specs.Listed.{NamesTask, WakesTask, number_on, whose}

module _ {T E H : Type 0} where
  -- its task, whether it has its init, a value, an error, or what shows its value, and which wakers were handed to it
  abbrev pub told : PollSide T E H → Sided
  told s = record {
    number = s.mark;
    has_init = is_some s.init;
    has_value = is_some s.value;
    has_error = is_some s.error;
    has_shown = is_some s.written;
    woke = named_out whose s.woke.value;
  }

-- by the errors with which an init may fail, by the values that it may give, and by which error a side has
module _ {T E H X : Type 0} (may_fail : H → X → Type 0) (may_give : H → T → Type 0) (error_of : E → X) where
  -- a side is right: a task that it says is to be woken is; its init fails with no other error than when the poll
  -- began, and gives no other value; the error or the value that is there, or that it handed over, is one of these; and
  -- what shows a value shows one of these in the slot of its cell
  pub record Tied (s : PollSide T E H) : Type 0 where
    pub armed : s.is_armed ≡ true → IsArmed s.cx.now
    pub fails : GivesNoOther may_fail s.first.value s.init
    pub error : IfSome s.error (λ e. MayGive may_fail s.first.value (error_of e))
    pub gives : GivesNoOther may_give s.first.value s.init
    pub value : IfSome s.value (MayGive may_give s.first.value)
    pub handed : IfSome s.handed.value (MayGive may_give s.first.value)
    pub written : IfSome s.written (λ w. (s.slot.numbers ≡ w.of ∷ []) × MayGive may_give s.first.value w.value)

  -- the value that a side hands over is one that the init might give when the poll began, if the side is right
  abbrev pub Hands : PollSide T E H → T → Type 0
  Hands s v = Tied s → MayGive may_give s.first.value v

  -- from one moment of a side to a later one: the context is the same, what was armed stays so, the poll began with the
  -- same init at the same cell, and the side is as right as before
  abbrev pub Stays : PollSide T E H → PollSide T E H → Type 0
  Stays a b =
      (b.cx.ghost_name ≡ a.cx.ghost_name) × Keeps a.cx.now b.cx.now × (b.first.value ≡ a.first.value)
      × (b.slot.numbers ≡ a.slot.numbers) × (Tied a → Tied b)

  -- the poll put its task's waker in the place of one that was listed, under the same number
  pub record IsRenewed (a : PollSide T E H) (v : ListedWaker) (b : PollSide T E H) (w : ListedWaker) : Type 0 where
    pub whose : number_on w.tag.numbers ≡ number_on v.tag.numbers  -- the listing stays the same task's
    pub wakes : WakesTask w b.cx.now  -- it wakes the task that is polled
    pub names : NamesTask w b.cx.now  -- and its tag names that task
    pub armed : b.is_armed ≡ true  -- the poll says that its task is to be woken
    pub told : told b ≡ told a  -- nothing else that is told of the side changed
    pub stays : Stays a b  -- the context keeps what it had, and the side is as right as before

-- what a leaving task's side tells: it has nothing that the init gave
abbrev pub leaving : {T R : Type 0} → LeaveSide T R → Sided
leaving s = record {
  number = s.mark;
  has_init = false;
  has_value = false;
  has_error = false;
  has_shown = false;
  woke = named_out whose s.woke.value;
}
