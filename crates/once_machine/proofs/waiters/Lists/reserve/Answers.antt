-- Room changes no listing.
use Rattle.once_machine.proofs.waiters.Lists.reserve.Goals as goal

pub invariant_of-self : goal.invariant_of-self
invariant_of-self g c = record { apart = λ m. rw c.reserve.ensures.listings (c.args.self.now.apart m) }
