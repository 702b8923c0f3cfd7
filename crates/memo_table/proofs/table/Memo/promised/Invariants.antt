use Rattle.std.proofs.Common.{◌↔◌, ℕ, IsSome, Contains}
use Rattle.memo_table.specs.Memo.{AreAboutKeys, cell_of}
use Rattle.memo_table.proofs.table.Memo.promised.Given as goal

-- the table has the keys that came so far, and what each cell promises is about its key
abbrev pub invariant-loop-key : goal.invariant-loop-key
invariant-loop-key g l = ((q : ℕ) → IsSome (cell_of l.cells.entries q) ↔ Contains l.yielded q) × AreAboutKeys l.cells.entries
