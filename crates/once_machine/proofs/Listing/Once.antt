-- No ticket stands in a list twice.
use Rattle.std.proofs.Common.{◌≡◌, true}
use Rattle.once_machine.specs.Numbers.{is_distinct}
use Rattle.once_machine.specs.Listings.{tickets}
use Rattle.once_machine.specs.Room.{listings_of}
use Rattle.once_machine.specs.declared.waiters.Lists.{Lists}

-- since no slot has the ticket of another
pub tickets_once : {W : Type 0} {g : _} (l : Lists W g) → is_distinct (tickets (listings_of l)) ≡ true
tickets_once l = l.slots.once
