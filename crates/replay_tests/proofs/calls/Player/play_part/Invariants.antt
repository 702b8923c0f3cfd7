-- The world was reached by the calls so far.
use Rattle.once_script.specs.Reached.{IsReached}
use Rattle.replay_tests.proofs.calls.Player.play_part.Given as goal

abbrev pub invariant-loop-row : goal.invariant-loop-row
invariant-loop-row g l = IsReached l.teller.world
