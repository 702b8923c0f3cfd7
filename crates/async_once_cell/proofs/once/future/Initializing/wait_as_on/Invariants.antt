use Rattle.std.proofs.Common.{◌≡◌, false, None}
use mathlib.Core.List.{IsPrefix}
use Rattle.async_once_cell.specs.Inits.{GivesNoOther}
use Rattle.async_once_cell.proofs.once.future.Initializing.wait_as_on.Given as goal

-- no poll so far finished the future, and the token is of its cell, knows nothing, and has seen what it had seen.
-- Its init fails with no other error than before
abbrev pub invariant-loop : goal.invariant-loop
invariant-loop g l =
    (l.self.finished ≡ false) × (l.token.cell ≡ l.self.cell) × (l.token.cell ≡ l.fn.token.cell) × (l.token.value ≡ None) × IsPrefix l.fn.token.log l.token.log
    × GivesNoOther g.I.Init.may_fail l.fn.self.init l.self.init × (l.self.task ≡ l.fn.self.task)
