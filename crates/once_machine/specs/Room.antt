-- Whether a task holds under the cell's lock, which listings stand there, and for how many there is memory.
use Rattle.std.specs.Prelude.{ℕ, List, Option}
use Rattle.once_machine.specs.declared.waiters.Listing.{Listing}
use Rattle.once_machine.specs.declared.waiters.Lists.{Lists}
use Rattle.once_machine.specs.Claims.{Claimant}
use Rattle.once_machine.specs.Slots.{HasMark, HasSlot, capacity_in, listings_in}

-- the listings, the oldest first
abbrev pub listings_of : {W : Type 0} {g : _} → Lists W g → List (Listing W)
listings_of l = listings_in l.slots

-- what a task with this ticket can change
abbrev pub claimant : {W : Type 0} {g : _} → Lists W g → Option ℕ → Claimant W
claimant l ticket = record { head = l.head; listings = listings_of l; ticket = ticket }

-- for how many listings there is memory
abbrev pub capacity_of : {W : Type 0} {g : _} → Lists W g → ℕ
capacity_of l = capacity_in l.slots

-- room for one more listing, and for the mark of its ticket
abbrev pub HasSpace : {W : Type 0} {g : _} → Lists W g → Type 0
HasSpace l = HasSlot l.slots × HasMark l.slots
