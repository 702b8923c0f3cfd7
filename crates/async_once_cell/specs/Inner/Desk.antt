-- The pages that lie under the lock, which are the door's and the queue's, and what lies there beside them.
use Rattle.std.specs.Prelude.{◌≡◌, ℕ, Bool, false, List, [], ◌∷◌, drop, Option, Some, None, Box}
use Rattle.std.specs.declared.alloc.Global.{Global}
use Rattle.pagebook.specs.Pages.{Held}
use Rattle.once_machine.specs.declared.waiters.Listing.{Listing}
use Rattle.once_machine.specs.declared.waiters.Lists.{Lists}
use Rattle.once_machine.specs.Room.{listings_of}
use Rattle.once_machine.specs.Book.{Door, Page, Queue}
use Rattle.async_once_cell.specs.Kept.{Sheet, sheet, sheets}
use Rattle.async_once_cell.specs.Inner.Named.{named}

-- what stands on both pages
pub record Desked : Type 0 where
  pub made : ℕ  -- how many queues were made
  pub door : Option ℕ  -- which one stands at the door
  pub head : Bool  -- its flag
  pub listings : List (Listing ℕ)  -- its listings

-- those of a new cell
abbrev pub first_desk : Desked
first_desk = record { made = 0; door = None; head = false; listings = [] }

-- a new book has these two pages
abbrev pub desk_pages : Desked → List Sheet
desk_pages d = sheet [] (Door d.made d.door) ∷ sheet [] (Queue d.head d.listings) ∷ []

-- the hand with both
abbrev pub desk_sheets : Desked → Held Sheet
desk_sheets d = sheets [] ((0, Door d.made d.door) ∷ (1, Queue d.head d.listings) ∷ [])

-- what is read off a door's page
abbrev pub made_on : Page → ℕ
made_on (Door m q) = m
made_on _ = 0

-- and the queue that stands there
abbrev pub door_on : Page → Option ℕ
door_on (Door m q) = q
door_on _ = None

-- what is read off a queue's page
abbrev pub head_on : Page → Bool
head_on (Queue b xs) = b
head_on _ = false

-- and what is listed there
abbrev pub listings_on : Page → List (Listing ℕ)
listings_on (Queue b xs) = xs
listings_on _ = []

-- what a hand says whose first two pages are the door's and the queue's
abbrev pub desked : Held Sheet → Desked
desked (a ∷ b ∷ h) = record {
  made = made_on a.1.page;
  door = door_on a.1.page;
  head = head_on b.1.page;
  listings = listings_on b.1.page;
}
desked _ = first_desk

-- a hand has these two pages
abbrev pub IsDesk : Held Sheet → Type 0
IsDesk h = h ≡ desk_sheets (desked h)

-- the pages after these two
abbrev pub behind : Held Sheet → Held Sheet
behind h = drop 2 h

module _ {W : Type 0} {g : _} (whose : W → ℕ) where
  -- a queue stands at the door, with this flag and these listings.
  -- Their wakers are those of the tasks that the page names
  abbrev pub IsShown : Lists W g → Desked → Type 0
  IsShown l d = ((q : ℕ) × (d.door ≡ Some q)) × (l.head ≡ d.head) × (named whose (listings_of l) ≡ d.listings)

  -- the pages say what lies there: no queue, or this one
  abbrev pub IsDesked : Option (Box (Lists W g) Global) → Desked → Type 0
  IsDesked None d = (d.door ≡ None) × (d.head ≡ false) × (d.listings ≡ [])
  IsDesked (Some b) d = IsShown b.value d
