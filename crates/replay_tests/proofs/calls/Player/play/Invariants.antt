-- The world was reached by the parts so far.
use Rattle.once_script.specs.Reached.{IsReached}
use Rattle.replay_tests.proofs.calls.Player.play.Given as goal

abbrev pub invariant-loop-part : goal.invariant-loop-part
invariant-loop-part g l = IsReached l.teller.world
