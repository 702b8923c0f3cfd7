-- No call is under way, and the record goes on by polls that had a reason. Each poll finishes a task.
use Rattle.std.proofs.Common.{ℕ}
use Rattle.once_machine.specs.Record.{Kind}
use Rattle.once_script.specs.Reached.{IsReached}
use Rattle.once_script.specs.WorldShown.{world_in}
use Rattle.once_drained.specs.Drained.{IsContinued, IsWorldOf, record_of}
use Rattle.once_drained.specs.Turn.{HasAll, IsQuiet}
use Rattle.once_drained.proofs.drain.Given as goal

abbrev pub invariant-loop-task : goal.invariant-loop-task
invariant-loop-task l = IsReached l.world × ((kind : Kind) (limit : ℕ) → IsWorldOf kind limit l.fn.world
    → IsWorldOf kind limit l.world × IsContinued kind (record_of l.fn.world) (record_of l.world))
    × HasAll l.tasks (world_in l.world) × IsQuiet (world_in l.world)

abbrev pub decreases-loop-task : goal.decreases-loop-task
decreases-loop-task l = (world_in l.world).unfinished
