-- The program's status and cell, as the definitions see them.
use Rattle.once_machine.specs.Cell.{Cell, Empty, Held, SetTo}
use Rattle.once_machine.specs.Tasks.{Status, Unmade, Fresh, Polling, Dropping, Waiting, Holding, Gone}
use Rattle.once_judge.specs.declared.task.Status.{Status as GivenStatus}
use Rattle.once_judge.specs.declared.task.Status.TheVariants.{Unmade as GivenUnmade, Fresh as GivenFresh}
use Rattle.once_judge.specs.declared.task.Status.TheVariants.{Polling as GivenPolling, Dropping as GivenDropping}
use Rattle.once_judge.specs.declared.task.Status.TheVariants.{Waiting as GivenWaiting, Holding as GivenHolding}
use Rattle.once_judge.specs.declared.task.Status.TheVariants.{Gone as GivenGone}
use Rattle.once_judge.specs.declared.task.Cell.{Cell as GivenCell}
use Rattle.once_judge.specs.declared.task.Cell.TheVariants.{Empty as GivenEmpty, Held as GivenHeld, SetTo as GivenSetTo}

-- a status
abbrev pub status_of : GivenStatus → Status
status_of GivenUnmade = Unmade
status_of GivenFresh = Fresh
status_of GivenPolling = Polling
status_of GivenDropping = Dropping
status_of GivenWaiting = Waiting
status_of GivenHolding = Holding
status_of GivenGone = Gone

-- a cell
abbrev pub cell_of : GivenCell → Cell
cell_of GivenEmpty = Empty
cell_of (GivenHeld t) = Held t
cell_of (GivenSetTo v) = SetTo v
