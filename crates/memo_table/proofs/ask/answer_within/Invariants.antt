use Rattle.std.proofs.Common.{◌≡◌, false}
use Rattle.memo_table.proofs.ask.answer_within.Given as goal

-- no turn so far finished the future, which is of the same cell
abbrev pub invariant-loop : goal.invariant-loop
invariant-loop g l = (l.future.finished ≡ false) × (l.future.cell ≡ l.fn.future.cell)
