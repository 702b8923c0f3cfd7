-- How a task asks for the right under the cell's lock.
use Rattle.std.specs.Prelude.{◌≡◌, ℕ, Bool, true, List, Option, None}
use Rattle.once_machine.specs.declared.waiters.Listing.{Listing}
use Rattle.once_machine.specs.declared.waiters.Answer.{Answer}
use Rattle.once_machine.specs.declared.word.Sees.{Sees}
use Rattle.once_machine.specs.declared.word.Sees.TheVariants.{Set, Free, Taken}
use Rattle.std.specs.Option.{option_flatten}
use Rattle.once_machine.specs.Listings.{list_without}

-- what a task that asks for the right can change
pub record Claimant (W : Type 0) : Type 0 where
  pub head : Bool  -- the flag beside the list
  pub listings : List (Listing W)
  pub ticket : Option ℕ  -- its own ticket

module _ {W : Type 0} where
  -- the right is claimed: the own listing leaves, and the ticket is given up
  abbrev pub claimed : Claimant W → Claimant W
  claimed s = record { head = true; listings = list_without s.ticket s.listings; ticket = None }

  -- by what is seen: the value is set, and all stays; the right is free, and is claimed; else this says nothing
  abbrev pub Claims : Sees → Claimant W → Answer W → Claimant W → Type 0
  Claims Set s answer t = (answer ≡ Answer.Ready) × (t ≡ s)
  Claims Free s answer t = (answer ≡ Answer.Claimed) × (t ≡ claimed s)
  Claims Taken s answer t = Unit {0}

  -- the waker that a claim takes out of the list, by what is seen and by the own listing: one that was not woken
  abbrev pub spent_by : Sees → Option (Option W) → Option W
  spent_by Free o = option_flatten o
  spent_by _ o = None
