-- What a call of a task makes of the record, of parts and sides of any type.
use Rattle.std.proofs.Common.{◌≡◌, ℕ, Bool, [], ◌++◌, sym, ◌∙◌}
use Rattle.std.specs.Prelude.{⊤}
use Rattle.std.proofs.lemmas.List.{append-nil}
use Rattle.pagebook.specs.Slot.{Placed}
use Rattle.once_machine.specs.declared.step.Progress.{Progress}
use Rattle.once_machine.specs.declared.step.Step.{Step}
use Rattle.async_once_cell.specs.Inner.Own.{Own}
use Rattle.async_once_cell.specs.Inner.Sides.{Sided}
use Rattle.async_once_cell.specs.Walks.{Stands, Walked}

module _ {P S W : Type 0} (cell : P → Placed) (own : P → Own) (whose : W → ℕ) (state : S → Sided) where
  -- a call made steps, of which the last told r, and stands there
  pub record Went (drops : Bool) (p : P) (s : S) (r : Progress) (p' : P) (s' : S) (t : Step W ⊤) : Type 0 where
    pub cell_is : cell p' ≡ cell p
    pub walked : Walked (state s) (own p) r (state s') (own p')
    pub stands : Stands whose drops (state s') (own p') r t

-- nobody was handed to a side
pub quiet : (x y : Sided) → y.woke ≡ x.woke → y.woke ≡ x.woke ++ []
quiet x y e = e ∙ sym (append-nil x.woke)
