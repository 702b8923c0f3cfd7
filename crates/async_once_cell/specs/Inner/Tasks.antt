-- What a contract sees of a task of a cell, between two of its calls.
use Rattle.std.specs.Prelude.{◌≡◌, ◌↔◌, ℕ, Bool, true, false, List, [], ◌∷◌}
use Rattle.pagebook.specs.Slot.{Placed}
use Rattle.once_machine.specs.declared.step.Ending.{Ending}
use Rattle.once_machine.specs.declared.step.Ending.TheVariants.{Dropped as EndDropped, Error as EndError}
use Rattle.once_machine.specs.declared.step.Ending.TheVariants.{Pending as EndPending, Value as EndValue}
use Rattle.once_machine.specs.Record.{Begin, Entry}
use Rattle.async_once_cell.specs.Kept.{Grew}
use Rattle.async_once_cell.specs.Record.{gave_value}
use Rattle.async_once_cell.specs.Inner.Sides.{IsReady, Sided}
use Rattle.async_once_cell.specs.Walks.{IsCall, Spans, end_of, handed}

-- a task
pub record TaskView : Type 0 where
  pub cell : Placed  -- its cell
  pub number : ℕ  -- its number
  pub log : List Entry  -- the record as far as it has seen it
  pub finished : Bool  -- whether it is finished

-- a poll of the task v ended so, by which it is w, and its side is y
pub record HasPolled (y : Sided) (e : Ending) (v w : TaskView) : Type 0 where
  pub number : w.number ≡ v.number  -- the task is the same
  pub end : Grew (end_of w.number e ∷ []) v.log w.log  -- the newest entry is the end of this poll
  pub spans : Spans w.number (end_of w.number e) v.log w.log  -- it began after all that the task had seen before
  -- its own entries, and those whose wakers were handed to the side
  pub call : (mid : List Entry) × IsCall w.number (Begin w.number w.number) (end_of w.number e) mid v.log w.log
      × (y.woke ≡ handed mid)
  pub init : e ≡ EndPending → IsReady y  -- the init is there still, and gave no value
  pub error : e ≡ EndError → y.has_error ≡ true  -- the error is one that the init gave
  -- if it ended with a value, the side was shown that its own is the cell's exactly if its own init gave one
  pub shown : e ≡ EndValue → y.has_shown ≡ gave_value w.number w.log
  pub finished : (e ≡ EndPending) ↔ (w.finished ≡ false)  -- it goes on, or it is over
  pub not_dropped : e ≡ EndDropped → ⊥  -- it was no drop
