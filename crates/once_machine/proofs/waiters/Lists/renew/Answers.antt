-- If wakers may be the same, the list counts as mixed from here on.
use Rattle.once_machine.proofs.Listing.AllOther.{apart_renewed}
use Rattle.once_machine.specs.Slots.{listings_in}
use Rattle.once_machine.proofs.waiters.Lists.renew.Goals as goal

pub invariant_of-self : goal.invariant_of-self
invariant_of-self g c =
    let lists = c.args.self.now in
    record { apart = λ m. apart_renewed g.W.WakerId.tells_other lists.mixed c.are_all_other.result (listings_in c.renew.new.self) m c.are_all_other.ensures }
