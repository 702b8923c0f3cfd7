-- What stands in the slots, and room there.
use Rattle.std.specs.Prelude.{ℕ, ◌<◌, List, filter, vec_len, vec_capacity}
use Rattle.once_machine.specs.declared.waiters.Listing.{Listing}
use Rattle.once_machine.specs.declared.slots.Slots.{Slots}
use Rattle.once_machine.specs.Kept.{is_kept}

module _ {W : Type 0} where
  -- the listings, in their order
  abbrev pub listings_in : Slots W → List (Listing W)
  listings_in s = filter is_kept s.slots.items

  -- for how many listings there is memory
  abbrev pub capacity_in : Slots W → ℕ
  capacity_in s = vec_capacity s.slots

  -- room for one more slot
  abbrev pub HasSlot : Slots W → Type 0
  HasSlot s = vec_len s.slots < vec_capacity s.slots

  -- room for the mark of one more ticket
  abbrev pub HasMark : Slots W → Type 0
  HasMark s = vec_len s.used < vec_capacity s.used
