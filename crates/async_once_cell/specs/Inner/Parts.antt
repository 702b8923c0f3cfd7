-- What the calls of a cell's parts ask and tell, by what a task knows of itself and of the record.
use Rattle.std.specs.Prelude.{◌≡◌, ℕ, ⊤, []}
use Rattle.std.specs.Option.{is_some}
use Rattle.pagebook.specs.Slot.{Placed}
use Rattle.once_machine.specs.declared.waiters.Answer.{Answer}
use Rattle.once_machine.specs.declared.waiters.Op.{Op}
use Rattle.once_machine.specs.declared.waiters.Op.TheVariants.{Leave}
use Rattle.once_machine.specs.Table.{Call, Refuse, Told, Got, PutQueue, Was}
use Rattle.once_machine.specs.declared.step.Step.{Step}
use Rattle.async_once_cell.specs.Kept.{has_passed, hands_out}
use Rattle.async_once_cell.specs.Inner.Named.{handed_in}
use Rattle.async_once_cell.specs.Inner.Own.{Own}
use Rattle.async_once_cell.specs.Inner.Page.{Went, call_in, queue_of}
use Rattle.async_once_cell.specs.Inner.Places.{CanRefuse, numbered}
use Rattle.async_once_cell.specs.Inner.Steps.{answer_as, call_as, left_as, op_as, told_as}

module _ {W : Type 0} (whose : W → ℕ) where
  -- what each call asks: the task stands where it is made. The code has one queue and no name for it, so a section is
  -- asked by the number that the page has
  abbrev pub CanCall : Step ℕ ℕ → Call W ⊤ → Type 0
  CanCall s Refuse = CanRefuse s
  CanCall s c = call_in s ≡ call_as whose (λ (q : ⊤). queue_of (call_in s)) c

  -- the record says that a leaver passed its turn on exactly if somebody is handed out
  abbrev pub PassesOn : Op W → Answer W → Own → Type 0
  PassesOn (Leave k) a w = has_passed w.number w.log ≡ hands_out (handed_in whose a)
  PassesOn op a w = Unit {0}

  -- what each call tells: the task's page went on by the table, with some number for a queue that was found
  abbrev pub DidCall : Own → Told W ⊤ → Own → Type 0
  DidCall v (Got q) w = (n : ℕ) × Went v (Got (numbered n (is_some q))) [] w
  DidCall v (PutQueue q) w = (n : ℕ) × Went v (PutQueue (numbered n (is_some q))) [] w
  DidCall v (Was q op a o) w =
      Went v (Was (queue_of (call_in v.task.step)) (op_as whose op) (answer_as a) (left_as o)) (handed_in whose a) w
      × PassesOn op a w
  DidCall v e w = Went v (told_as whose (λ (q : ⊤). 0) e) [] w

module _ {P W : Type 0} (cell : P → Placed) (own : P → Own) (whose : W → ℕ) where
  -- what the parts of a task ask
  abbrev pub parts_can : P → Call W ⊤ → Type 0
  parts_can s c = CanCall whose (own s).task.step c

  -- what they tell: the cell is the same
  abbrev pub parts_did : P → Told W ⊤ → P → Type 0
  parts_did s e t = (cell t ≡ cell s) × DidCall whose (own s) e (own t)
