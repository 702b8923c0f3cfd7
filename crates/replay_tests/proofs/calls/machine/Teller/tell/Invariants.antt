-- The world was reached by the calls so far.
use Rattle.once_script.specs.Reached.{IsReached}
use Rattle.replay_tests.proofs.calls.machine.Teller.tell.Given as goal

abbrev pub invariant-loop-whole : goal.invariant-loop-whole
invariant-loop-whole l = IsReached l.self.world
