-- From the end on each waker was handed out once, and before it all is as it was.
use Rattle.once_machine.proofs.Listing.Repeats.{Handed}
use Rattle.once_machine.proofs.waiters.once_each.Given as goal

abbrev pub invariant-loop-end : goal.invariant-loop-end
invariant-loop-end g l = Handed g.W.WakerId.tells_same g.W.WakerId.tells_other l.end l.initial.listings.items l.listings.items

abbrev pub decreases-loop-end : goal.decreases-loop-end
decreases-loop-end g l = l.end
