-- The new waker is other than each that is listed, or the list is mixed.
use Rattle.once_machine.proofs.Listing.AllOther.{apart_listed, other_kept}
use Rattle.once_machine.specs.Kept.{is_kept}
use Rattle.once_machine.specs.Slots.{listings_in}
use Rattle.once_machine.proofs.waiters.Lists.list.Goals as goal

pub invariant_of-self : goal.invariant_of-self
invariant_of-self g c =
    let lists = c.ticket_to_list_by.new.self in
    let other = g.W.WakerId.tells_other in
    record {
      apart = λ m. rw c.push.ensures.listings (apart_listed other lists.mixed c.repeats.result (listings_in lists.slots) _ m lists.apart
          (λ r. rw c.as_slice.ensures (other_kept other is_kept _ c.as_slice.result.now (c.repeats.ensures.no r))));
    }
