-- How a clause sees a future, by what it is made of.
use Rattle.std.specs.Prelude.{◌≡◌, ℕ, ⊤, Bool, true, false, List, [], Option, Some, None}
use Rattle.once_machine.specs.Record.{Entry}
use Rattle.async_once_cell.specs.declared.once.future.FutureState.{FutureState}
use Rattle.async_once_cell.specs.declared.once.future.FutureState.TheVariants.{Owned as StateOwned}
use Rattle.async_once_cell.specs.declared.once.future.FutureState.TheVariants.{Answered as StateAnswered}
use Rattle.async_once_cell.specs.declared.once.future.FutureState.TheVariants.{Left as StateLeft}
use Rattle.async_once_cell.specs.declared.once.future.FutureState.TheVariants.{Shared as StateShared}
use Rattle.async_once_cell.specs.Inits.{InitFits}
use Rattle.async_once_cell.specs.Views.{CellView, FutureView, Owned, Shared, about_of, is_shared}

module _ {T I R V : Type 0} where
  -- its task's number
  abbrev pub task_of : FutureState T I R V → ℕ
  task_of (StateOwned r init) = 0
  task_of (StateAnswered r) = 0
  task_of (StateLeft r) = 0
  task_of (StateShared w) = w.number

  -- its init
  abbrev pub init_of : FutureState T I R V → Option I
  init_of (StateOwned r init) = Some init
  init_of (StateAnswered r) = None
  init_of (StateLeft r) = None
  init_of (StateShared w) = w.init

  -- the record that it has seen
  abbrev pub seen_of : FutureState T I R V → List Entry
  seen_of (StateOwned r init) = []
  seen_of (StateAnswered r) = []
  seen_of (StateLeft r) = []
  seen_of (StateShared w) = w.log

  -- whether it answered or left
  abbrev pub is_done : FutureState T I R V → Bool
  is_done (StateOwned r init) = false
  is_done (StateAnswered r) = true
  is_done (StateLeft r) = true
  is_done (StateShared w) = w.finished

  -- it is of this cell
  abbrev pub IsOfCell : CellView T → FutureState T I R V → Type 0
  IsOfCell (Owned x) (StateShared w) = ⊥
  IsOfCell (Owned x) _ = ⊤
  IsOfCell (Shared s) (StateShared w) = w.cell ≡ s
  IsOfCell (Shared s) _ = ⊥

  -- the value that it answered. One of a cell that has its owner's value answers that value
  abbrev pub answer_of : CellView T → FutureState T I R V → Option T
  answer_of c (StateOwned r init) = None
  answer_of (Owned x) (StateAnswered r) = Some x
  answer_of (Shared s) (StateAnswered r) = None
  answer_of c (StateLeft r) = None
  answer_of c (StateShared w) = w.value

  -- whether it answered a value that its own init gave
  abbrev pub gave_of : FutureState T I R V → Bool
  gave_of (StateOwned r init) = false
  gave_of (StateAnswered r) = false
  gave_of (StateLeft r) = false
  gave_of (StateShared w) = w.gave

  -- what a clause sees of a future of this cell
  abbrev pub view_of_future : CellView T → FutureState T I R V → FutureView T I
  view_of_future c a = record {
    cell = c;
    init = init_of a;
    task = task_of a;
    log = seen_of a;
    finished = is_done a;
    value = answer_of c a;
    gave = gave_of a;
  }

-- each value that the init of a future may give fits what is promised of the value of its cell. Of one that has its
-- owner's value nothing is promised
abbrev pub KeepsPromise : {T I : Type 0} → (I → T → Type 0) → (List ℕ → T → Type 0) → FutureView T I → Type 0
KeepsPromise may_give fits f = is_shared f.cell ≡ true → InitFits may_give fits f.init (about_of f.cell)
