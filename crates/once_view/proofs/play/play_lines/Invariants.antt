-- The world was reached by the lines so far.
use Rattle.once_script.specs.Reached.{IsReached}
use Rattle.once_view.proofs.play.play_lines.Given as goal

abbrev pub invariant-loop-line : goal.invariant-loop-line
invariant-loop-line g l = IsReached l.world
