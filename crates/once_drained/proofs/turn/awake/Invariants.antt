-- None of the tasks so far is awake.
use Rattle.std.proofs.Common.{◌≡◌, ℕ, true, false, take}
use Rattle.once_machine.specs.Numbers.{member}
use Rattle.once_machine.specs.Record.{Kind}
use Rattle.once_machine.specs.Machine.{step_of}
use Rattle.once_script.specs.WorldShown.{world_in}
use Rattle.once_drained.specs.Drained.{record_of}
use Rattle.once_drained.specs.Turn.{is_awake, is_woken}
use Rattle.once_drained.proofs.turn.awake.Given as goal

abbrev pub invariant-loop-task : goal.invariant-loop-task
invariant-loop-task l = (u : ℕ) → member u (take l.task-index l.tasks) ≡ true → (kind : Kind)
    → is_awake (step_of ((world_in l.world).tasks u)) (is_woken kind u (record_of l.world)) ≡ false
