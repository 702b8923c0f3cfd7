-- The world was reached by the lines so far.
use Rattle.once_script.specs.Reached.{IsReached}
use Rattle.view_tests.proofs.read_back.script.play_on.Given as goal

abbrev pub invariant-loop : goal.invariant-loop
invariant-loop l = IsReached l.world
