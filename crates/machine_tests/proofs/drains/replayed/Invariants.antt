-- The lines so far led to the world.
use Rattle.once_script.specs.Reached.{IsReached}
use Rattle.machine_tests.proofs.drains.replayed.Given as goal

abbrev pub invariant-loop-line : goal.invariant-loop-line
invariant-loop-line l = IsReached l.world
