-- The slots in which listings stand. One that its listing left has the ticket `hole`, which no listing has.
use Rattle.std.specs.Prelude.{ℕ, Bool, false, if◌then◌else◌, not, ◌==◌}
use Rattle.std.specs.Option.{is_some}
use Rattle.once_machine.specs.declared.waiters.Listing.{Listing}

-- the ticket of a slot without listing
abbrev pub hole : ℕ
hole = 18446744073709551615

module _ {W : Type 0} where
  -- a listing stands in the slot
  abbrev pub is_kept : Listing W → Bool
  is_kept x = not (x.ticket == hole)

  -- a listing stands in the slot, and was not woken
  abbrev pub is_open : Listing W → Bool
  is_open x = if is_kept x then is_some x.waker else false
