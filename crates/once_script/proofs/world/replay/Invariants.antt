-- The world so far is the machine's after the inputs so far.
use Rattle.std.proofs.Common.{take}
use Rattle.once_script.specs.Reached.{IsAfter}
use Rattle.once_machine.specs.Shown.{kind_of, inputs_in}
use Rattle.once_script.proofs.world.replay.Given as goal

abbrev pub invariant-loop-input : goal.invariant-loop-input
invariant-loop-input l = IsAfter (kind_of l.fn.kind) l.fn.limit (inputs_in (take l.input-index l.inputs)) l.world
