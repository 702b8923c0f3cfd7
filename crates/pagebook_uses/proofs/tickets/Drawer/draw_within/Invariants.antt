-- Nothing was drawn so far.
use Rattle.std.proofs.Common.{◌≡◌}
use Rattle.pagebook_uses.proofs.tickets.Drawer.draw_within.Given as goal

abbrev pub invariant-loop : goal.invariant-loop
invariant-loop l = l.self ≡ l.initial.self
