-- What a look and a listing under the cell's lock answer, and what they then leave of the flag beside the list, of
-- the listings and of the ticket.
use Rattle.std.specs.Prelude.{ℕ, Bool, true, false, List, Option, Some, None}
use Rattle.once_machine.specs.declared.word.Sees.{Sees}
use Rattle.once_machine.specs.declared.word.Sees.TheVariants.{Set, Free, Taken}
use Rattle.once_machine.specs.declared.waiters.Listing.{Listing}
use Rattle.once_machine.specs.declared.waiters.Answer.{Answer as SectionAnswer}
use Rattle.once_machine.specs.declared.waiters.Answer.TheVariants.{Ready, Claimed, Listed, Held, Memory as NoMemory}
use Rattle.once_machine.specs.declared.waiters.Answer.TheVariants.{Gone}
use Rattle.once_machine.specs.Listings.{list_with, list_without, ticket_for}

-- what a call under the lock finds of its queue, by whether that stands at the door: what is seen, or that it is gone
abbrev pub seen_by : Bool → Sees → Option Sees
seen_by true seen = Some seen
seen_by false seen = None

-- what a look answers, by whether its own listing has its waker
abbrev pub look_answer : Option Sees → Bool → SectionAnswer ℕ
look_answer None _ = Gone
look_answer (Some Set) _ = Ready
look_answer (Some Free) _ = Claimed
look_answer (Some Taken) true = Listed
look_answer (Some Taken) false = Held

-- what a listing answers, by whether there is room: its listing is there, or memory is given
abbrev pub list_answer : Option Sees → Bool → SectionAnswer ℕ
list_answer None _ = Gone
list_answer (Some Set) _ = Ready
list_answer (Some Free) _ = Claimed
list_answer (Some Taken) true = Listed
list_answer (Some Taken) false = NoMemory

-- a section claimed the right
abbrev pub is_claim : SectionAnswer ℕ → Bool
is_claim Claimed = true
is_claim _ = false

-- the flag beside the list: a claim raises it
abbrev pub head_after : SectionAnswer ℕ → Bool → Bool
head_after Claimed head = true
head_after _ head = head

-- the listings after a look with this ticket: a claim takes the own one out
abbrev pub looked_list : SectionAnswer ℕ → Option ℕ → List (Listing ℕ) → List (Listing ℕ)
looked_list Claimed n xs = list_without n xs
looked_list _ n xs = xs

-- the listings after a call to list this waker
abbrev pub listed_list : SectionAnswer ℕ → Option ℕ → ℕ → List (Listing ℕ) → List (Listing ℕ)
listed_list Claimed n w xs = list_without n xs
listed_list Listed n w xs = list_with (ticket_for n xs) w xs
listed_list _ n w xs = xs

-- the ticket that is left: a claim gives it up
abbrev pub looked_ticket : SectionAnswer ℕ → Option ℕ → Option ℕ
looked_ticket Claimed n = None
looked_ticket _ n = n

-- the same after a call to list oneself
abbrev pub listed_ticket : SectionAnswer ℕ → Option ℕ → List (Listing ℕ) → Option ℕ
listed_ticket Claimed n xs = None
listed_ticket Listed n xs = Some (ticket_for n xs)
listed_ticket _ n xs = n

-- the waker that is left of such a call: one that was listed is gone
abbrev pub waker_left : {W : Type 0} → SectionAnswer ℕ → Option W → Option W
waker_left Listed w = None
waker_left _ w = w
