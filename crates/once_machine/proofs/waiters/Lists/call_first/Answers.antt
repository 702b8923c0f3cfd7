-- Listings that are apart are apart still when one was woken.
use mathlib.Core.Logic.{∥∥₁_map}
use Rattle.once_machine.proofs.Listing.AllOther.{apart_first}
use Rattle.once_machine.specs.Slots.{listings_in}
use Rattle.once_machine.proofs.waiters.Lists.call_first.Goals as goal

pub invariant_of-self : goal.invariant_of-self
invariant_of-self g c =
    let lists = c.args.self.now in
    record { apart = λ m. ∥∥₁_map (lists.apart m) (λ apart. rw c.call_first.ensures.listings (apart_first g.W.WakerId.tells_other (listings_in lists.slots) apart)) }
