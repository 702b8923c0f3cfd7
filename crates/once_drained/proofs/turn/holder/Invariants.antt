-- None of the tasks so far rests with the right.
use Rattle.std.proofs.Common.{◌≡◌, ℕ, true, false, take}
use Rattle.once_machine.specs.Numbers.{member}
use Rattle.once_machine.specs.Machine.{step_of}
use Rattle.once_script.specs.WorldShown.{world_in}
use Rattle.once_drained.specs.Turn.{rests_holding}
use Rattle.once_drained.proofs.turn.holder.Given as goal

abbrev pub invariant-loop-task : goal.invariant-loop-task
invariant-loop-task l = (u : ℕ) → member u (take l.task-index l.tasks) ≡ true → rests_holding (step_of ((world_in l.world).tasks u)) ≡ false
