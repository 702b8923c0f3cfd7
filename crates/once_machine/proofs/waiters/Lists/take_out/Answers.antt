-- What is left of listings that are apart is apart.
use mathlib.Core.Logic.{∥∥₁_map}
use Rattle.once_machine.proofs.Listing.AllOther.{apart_taken}
use Rattle.once_machine.specs.Slots.{listings_in}
use Rattle.once_machine.proofs.waiters.Lists.take_out.Goals as goal

pub invariant_of-self-2 : goal.invariant_of-self-2
invariant_of-self-2 g c =
    let lists = c.args.self.now in
    record { apart = λ m. ∥∥₁_map (lists.apart m) (λ apart. rw c.take_out.ensures.listings (apart_taken g.W.WakerId.tells_other c.in_ok-ticket.field-0 (listings_in lists.slots) apart)) }
