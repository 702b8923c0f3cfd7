use Rattle.std.proofs.Common.{◌≡◌}
use Rattle.async_once_cell.specs.Inner.Hands.{own_of}
use Rattle.async_once_cell.specs.Inner.Own.{Stayed}
use Rattle.async_once_cell.proofs.inner.shared.Inner.counted_again.Given as goal

abbrev pub invariant-loop : goal.invariant-loop
invariant-loop g l =
    (goal.iterator-loop g).can_next l.iterator' × (goal.iterator-loop g).is_finite l.iterator'
    × (l.hand.seen.book ≡ l.initial.hand.seen.book) × Stayed (own_of l.initial.hand) (own_of l.hand)
