-- What each moment of a task that has the lock tells of the task, and what it makes of the door's page and the queue's.
use Rattle.std.specs.Prelude.{◌≡◌, ℕ, suc, ◌*◌, ◌^◌, ◌||◌, Bool, true, false, List, [], Option, Some, None}
use Rattle.std.specs.Option.{is_some, option_flatten, option_to_list}
use Rattle.pagebook.specs.Pages.{Held, View}
use Rattle.once_machine.specs.Numbers.{is_distinct}
use Rattle.once_machine.specs.Word.{flags_of, sees, is_free}
use Rattle.once_machine.specs.declared.waiters.Listing.{Listing}
use Rattle.once_machine.specs.declared.waiters.Answer.{Answer as SectionAnswer}
use Rattle.once_machine.specs.declared.waiters.Answer.TheVariants.{Left}
use Rattle.once_machine.specs.declared.waiters.Op.TheVariants.{Look, List as ListOwn, Release, Leave}
use Rattle.once_machine.specs.Listings.{find_listing, kept_ticket, left_list, next_waker}
use Rattle.once_machine.specs.Listings.{own_listing, passes_turn, tickets, wakers_of}
use Rattle.once_machine.specs.Table.{Call, DoorGet, DoorPut, DoorTake, Section as SectionCall}
use Rattle.once_machine.specs.Table.{Told, Got, PutQueue, Refused, Taken, Was}
use Rattle.once_machine.specs.Record.{Entry}
use Rattle.once_machine.specs.UnderLock.{head_after, list_answer, listed_list, listed_ticket}
use Rattle.once_machine.specs.UnderLock.{look_answer, looked_list, looked_ticket}
use Rattle.once_machine.specs.Machine.{release_list, release_wakers}
use Rattle.once_machine.specs.declared.step.Step.{Step}
use Rattle.async_once_cell.specs.Kept.{Sheet, has_passed, hands_out, locked, sheets}
use Rattle.async_once_cell.specs.declared.inner.desk.Section.{Section}
use Rattle.async_once_cell.specs.declared.inner.desk.Section.TheVariants.{Stand, Get, Put, Found, Take, ByTable, Rest}
use Rattle.async_once_cell.specs.Inner.Desk.{Desked, behind, desked}
use Rattle.async_once_cell.specs.Inner.Own.{Own, Stayed, number_in, own_in, task_in}
use Rattle.async_once_cell.specs.Inner.Places.{CanRest}
use Rattle.async_once_cell.specs.Inner.Page.{Went, call_in}

-- what the task knows whose page lies behind the two under the lock
abbrev pub own_behind : View Entry Sheet → Own
own_behind v = own_in (v.0, behind v.1)

-- a hand has both pages, and that of a task behind them
abbrev pub IsBoth : List Entry → Held Sheet → Type 0
IsBoth log h =
    h ≡ sheets log (locked (desked h).made (desked h).door (desked h).head (desked h).listings
    (number_in (behind h)) (task_in (behind h)))

-- a queue is put
abbrev pub desk_put : Desked → Desked
desk_put d = record d { made = suc d.made; door = Some (suc d.made) }

-- what a look answers, by the word
abbrev pub looked : ℕ → Option ℕ → Desked → SectionAnswer ℕ
looked n k d = look_answer (Some (sees (flags_of n) d.head)) (is_some (option_flatten (own_listing k d.listings)))

-- what a listing answers, by the word and whether there is room
abbrev pub listed : ℕ → Option ℕ → Bool → Desked → SectionAnswer ℕ
listed n k room d = list_answer (Some (sees (flags_of n) d.head)) (is_some (kept_ticket k d.listings) || room)

-- whether the task that has this ticket passes its turn on as it leaves, by the word
abbrev pub passing : ℕ → ℕ → Desked → Bool
passing n k d = passes_turn (is_free (sees (flags_of n) d.head)) k d.listings

-- what a section is told, by whether there is room, the word and the two pages
abbrev pub section_told : Bool → ℕ → Desked → Call ℕ ℕ → Told ℕ ℕ
section_told room n d (SectionCall q (Look k)) =
    Was q (Look k) (looked n k d) (Look (looked_ticket (looked n k d) k))
section_told room n d (SectionCall q (ListOwn k w)) =
    Was q (ListOwn k w) (listed n k room d) (Look (listed_ticket (listed n k room d) k d.listings))
section_told room n d (SectionCall q op) = Was q op (Left None) (Look None)
section_told room n d c = Refused

-- what it leaves of the two pages
abbrev pub section_desk : Bool → ℕ → Desked → Call ℕ ℕ → Desked
section_desk room n d (SectionCall q (Look k)) =
    record d { head = head_after (looked n k d) d.head; listings = looked_list (looked n k d) k d.listings }
section_desk room n d (SectionCall q (ListOwn k (Some w))) = record d {
  head = head_after (listed n k room d) d.head;
  listings = listed_list (listed n k room d) k w d.listings;
}
section_desk room n d (SectionCall q (Release fills)) =
    record d { head = false; listings = release_list fills d.listings }
section_desk room n d (SectionCall q (Leave k)) = record d { listings = left_list (passing n k d) k d.listings }
section_desk room n d c = d

-- the wakers that it hands out
abbrev pub section_hands : ℕ → Desked → Call ℕ ℕ → List ℕ
section_hands n d (SectionCall q (Release fills)) = release_wakers fills d.listings
section_hands n d (SectionCall q (Leave k)) = option_to_list (next_waker (passing n k d) k d.listings)
section_hands n d c = []

-- a release with the value hands out each waker that is listed
abbrev pub HandsEach : Bool → List (Listing ℕ) → Type 0
HandsEach fills xs = fills ≡ true → is_distinct (tickets xs) ≡ true → release_wakers true xs ≡ wakers_of xs

-- what is known besides. The log says that t, if it leaves, passed its turn on exactly if somebody is handed out
abbrev pub SectionShows : ℕ → Desked → Call ℕ ℕ → ℕ → List Entry → Type 0
SectionShows n d (SectionCall q (Release fills)) t log = HandsEach fills d.listings
SectionShows n d (SectionCall q (Leave k)) t log =
    has_passed t log ≡ hands_out (section_hands n d (SectionCall q (Leave k)))
SectionShows n d c t log = Unit {0}

-- the section that is this call: of the two pages and of what the task knew, before it and after it
pub record SectionDid (room : Bool) (n : ℕ) (d : Desked) (x : Own) (e : Desked) (y : Own) (c : Call ℕ ℕ) : Type 0 where
  pub desk : e ≡ section_desk room n d c  -- what is left of the two pages
  pub went : Went x (section_told room n d c) (section_hands n d c) y  -- the task goes on by the table
  pub shows : SectionShows n d c y.number y.log  -- what is known besides

-- what a release adds to the word, modulo 2 ^ 64, by whether the value is set and whether the flag beside the list is
abbrev pub more_released : Bool → Bool → ℕ
more_released true true = 2 ^ 63
more_released true false = 2 ^ 62
more_released false true = 0
more_released false false = 3 * 2 ^ 62

-- if the listing with the ticket has a waker, it is the waker of this task
abbrev pub IsOwnListing : ℕ → ℕ → List (Listing ℕ) → Type 0
IsOwnListing k t xs = (v : ℕ) → find_listing k xs ≡ Some (Some v) → v ≡ t

-- each moment, by the number found in the word
abbrev pub Moment : Section → ℕ → Desked → Own → Desked → Own → Type 0
Moment Stand n d x e y = (e ≡ d) × Stayed x y × ((q : ℕ) × (d.door ≡ Some q))
Moment Get n d x e y = (e ≡ d) × Went x (Got d.door) [] y
Moment Put n d x e y = (e ≡ desk_put d) × Went x (PutQueue (Some (suc d.made))) [] y
Moment Found n d x e y = (e ≡ d) × Went x (PutQueue d.door) [] y
Moment Take n d x e y =
    (e ≡ record d { door = None }) × ((b : Bool) → Went x (Taken b) [] y) × (d.head ≡ false) × (d.listings ≡ [])
Moment (ByTable room) n d x e y = SectionDid room n d x e y (call_in x.task.step)
Moment (Rest k) n d x e y = (e ≡ d) × Stayed x y × IsOwnListing k x.number d.listings

-- the same by the view: the hand has both pages and the task's still
abbrev pub Tells : Section → View Entry Sheet → ℕ → View Entry Sheet → Type 0
Tells s v n w = IsBoth w.0 w.1 × Moment s n (desked v.1) (own_behind v) (desked w.1) (own_behind w)

-- a call is a section
abbrev pub IsSection : Call ℕ ℕ → Type 0
IsSection (SectionCall q op) = Unit {0}
IsSection _ = ⊥

-- a section that loads the word: all but a release, which adds to it
abbrev pub IsLoading : Call ℕ ℕ → Type 0
IsLoading (SectionCall q (Release fills)) = ⊥
IsLoading c = IsSection c

-- what may be done that no word marks, by the two pages and by where the task stands
abbrev pub CanNote : Section → Desked → Step ℕ ℕ → Type 0
CanNote Stand d s = IsSection (call_in s)
CanNote Get d s = call_in s ≡ DoorGet
CanNote Found d s = (call_in s ≡ DoorPut) × (is_some d.door ≡ true)
CanNote Take d s = call_in s ≡ DoorTake
CanNote (Rest k) d s = CanRest k s
CanNote _ d s = ⊥
