use Rattle.std.proofs.Common.{◌≡◌, Bool}
use Rattle.once_machine.specs.Table.{left_of}
use Rattle.once_machine.specs.declared.step.Progress.TheVariants.{More}
use Rattle.async_once_cell.specs.Inner.Own.{Own}
use Rattle.async_once_cell.specs.Inner.Shares.{cell_of, own}
use Rattle.async_once_cell.specs.Inner.Sides.{Sided}
use Rattle.async_once_cell.specs.Walks.{Stands, Walked}
use Rattle.async_once_cell.proofs.inner.shared.Shared.go_on.Given as goal

abbrev pub invariant-loop-self : goal.invariant-loop-self
invariant-loop-self g l =
    g.S.Side.stays l.fn.side l.side × (cell_of l.self ≡ cell_of l.fn.self)
    × ((x : Sided) → (v : Own) → Walked x v More (g.S.TaskSide.state l.fn.side) (own l.fn.self) → Walked x v l.told (g.S.TaskSide.state l.side) (own l.self))
    × ((drops : Bool) → Stands g.W.TaskWaker.whose drops (g.S.TaskSide.state l.fn.side) (own l.fn.self) More l.fn.step
    → Stands g.W.TaskWaker.whose drops (g.S.TaskSide.state l.side) (own l.self) l.told l.step)

abbrev pub decreases-loop-self : goal.decreases-loop-self
decreases-loop-self g l = left_of l.step
