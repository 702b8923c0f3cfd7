-- The world was reached by the steps so far, and stands after them.
use Rattle.std.proofs.Common.{◌++◌, ℕ, List, replicate}
use Rattle.once_machine.specs.Inputs.{Go, Input}
use Rattle.once_script.specs.Reached.{IsAfter, IsReached}
use Rattle.once_machine.specs.Record.{Kind}
use Rattle.once_script.proofs.world.play.World.run.Given as goal

abbrev pub invariant-loop : goal.invariant-loop
invariant-loop l = IsReached l.self
    × ((kind : Kind) (limit : ℕ) (inputs : List Input) → IsAfter kind limit inputs l.initial.self
    → IsAfter kind limit (replicate l.counter (Go l.task l.answer l.granted) ++ inputs) l.self)
