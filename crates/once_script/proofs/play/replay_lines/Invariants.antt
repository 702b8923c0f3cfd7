-- The world so far is the machine's after the inputs of the lines so far.
use Rattle.std.proofs.Common.{take}
use Rattle.once_script.specs.Reached.{IsAfter}
use Rattle.once_machine.specs.Shown.{kind_of, inputs_in}
use Rattle.once_script.specs.Text.{all_inputs}
use Rattle.once_script.proofs.play.replay_lines.Given as goal

abbrev pub invariant-loop-line : goal.invariant-loop-line
invariant-loop-line l = IsAfter (kind_of l.fn.kind) l.fn.limit (inputs_in (all_inputs (take l.line-index l.lines))) l.world
