-- The calls of the tasks so far ended, and they alone came to the record.
use Rattle.std.proofs.Common.{◌≡◌, ℕ, true, false, take}
use Rattle.once_machine.specs.Numbers.{member}
use Rattle.once_machine.specs.Record.{Kind}
use Rattle.once_machine.specs.Machine.{in_call, step_of}
use Rattle.once_script.specs.Reached.{IsReached}
use Rattle.once_script.specs.WorldShown.{world_in}
use Rattle.once_drained.specs.Drained.{IsContinued, IsWorldOf, record_of}
use Rattle.once_drained.specs.Turn.{HasAll}
use Rattle.once_drained.proofs.end_calls.Given as goal

abbrev pub invariant-loop-task : goal.invariant-loop-task
invariant-loop-task l = IsReached l.world × ((kind : Kind) (limit : ℕ) → IsWorldOf kind limit l.initial.world
    → IsWorldOf kind limit l.world × IsContinued kind (record_of l.initial.world) (record_of l.world))
    × HasAll l.tasks (world_in l.world)
    × ((u : ℕ) → member u (take l.task-index l.tasks) ≡ true → in_call (step_of ((world_in l.world).tasks u)) ≡ false)
