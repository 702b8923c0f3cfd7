-- The player stays at its table.
use Rattle.std.proofs.Common.{◌≡◌}
use Rattle.pagebook_uses.proofs.turns.pong_often.Given as goal

abbrev pub invariant-loop : goal.invariant-loop
invariant-loop l = l.ponger.pens.book ≡ l.table.pings.book
