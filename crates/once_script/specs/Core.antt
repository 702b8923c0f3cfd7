-- The parts of a cell as plain data, and what each of their calls asks, answers and leaves.
use Rattle.std.specs.Prelude.{◌≡◌, ◌≢◌, ℕ, suc, ◌<◌, ◌≤◌, ◌-◌, ◌^◌, ◌⊎◌, ◌||◌, Bool, true, false}
use Rattle.std.specs.Prelude.{if◌then◌else◌, not, List, [], ◌∷◌, ◌++◌, Option, Some, None, vec_len, vec_capacity}
use Rattle.std.specs.Option.{is_some}
use Rattle.once_script.specs.declared.plain.Core.{Core}
use Rattle.once_machine.specs.declared.log.QueueLine.{QueueLine}
use Rattle.once_machine.specs.declared.log.QueueLine.TheVariants.{Put, Entered, Taken}
use Rattle.once_machine.specs.Machine.{put_answer}
use Rattle.once_machine.specs.Table.{Call, AddOne, CountOut, DoorPut, DoorTake, Section}
use Rattle.once_machine.specs.Table.{Told, Loaded, TriedQuick, TriedFast, CountedIn, Added, CountedOut}
use Rattle.once_machine.specs.Table.{Got, PutQueue, Taken as TakenOut, Was, Refused, Ran, PutValue}
use Rattle.once_machine.specs.declared.waiters.Op.{Op}
use Rattle.once_machine.specs.declared.waiters.Op.TheVariants.{Look, List as ListOp, Release, Leave}
use Rattle.once_machine.specs.declared.waiters.Answer.{Answer}
use Rattle.once_machine.specs.declared.waiters.Answer.TheVariants.{Ready, Claimed, Listed, Memory, Released, Left, Gone}
use Rattle.once_machine.specs.Ops.{ticket_in, without_ticket}
use Rattle.once_machine.specs.Room.{HasSpace, listings_of}
use Rattle.once_machine.specs.declared.word.Sees.{Sees}
use Rattle.once_machine.specs.Word.{Flags, flags_alone, is_zero, is_quick_bit, sees, is_free}
use Rattle.once_machine.specs.declared.waiters.Listing.{Listing}
use Rattle.once_machine.specs.Listings.{own_listing, kept_ticket, ticket_for, list_with}
use Rattle.once_machine.specs.Listings.{list_without, passes_turn, next_waker, left_list}
use Rattle.once_machine.specs.Sections.{DidLook, Releases}

-- what contracts see of a core
pub record CoreState (W : Type 0) : Type 0 where
  pub word : Flags
  pub door : Option ℕ  -- the number of the queue at the door
  pub head : Bool  -- its flag
  pub listings : List (Listing W)  -- its listings
  pub made : ℕ  -- how many queues were made
  pub granted : Bool  -- whether memory is given
  pub current : Option W  -- the current waker
  pub limit : ℕ  -- how many tasks may be counted in
  pub log : List QueueLine  -- the queue log, the oldest line first

-- all that a core holds
abbrev pub state_of : {W : Type 0} {g : _} → Core W g → CoreState W
state_of c = record {
  word = c.word;
  door = c.door;
  head = c.lists.head;
  listings = listings_of c.lists;
  made = c.made;
  granted = c.granted;
  current = c.current;
  limit = c.limit;
  log = c.log.items;
}

-- room for one more listing and for one more line of the log
abbrev pub HasRoom : {W : Type 0} {g : _} → Core W g → Type 0
HasRoom c = HasSpace c.lists × (vec_len c.log < vec_capacity c.log)

module _ {W : Type 0} where
  -- one more is counted
  abbrev pub counted_state : CoreState W → CoreState W
  counted_state s = record s { word = record s.word { count = suc s.word.count } }

  -- a new queue is put if memory is given and none stands
  abbrev pub put_state : Bool → Option ℕ → CoreState W → CoreState W
  put_state true None s = record s {
    door = Some (suc s.made);
    head = false;
    listings = [];
    made = suc s.made;
    log = s.log ++ Put (suc s.made) ∷ [];
  }
  put_state _ _ s = s

  -- the queue at the door is taken out, with its flag and all its listings; if none stands, all is as it was
  abbrev pub take_by : Option ℕ → CoreState W → CoreState W
  take_by (Some q) s = record s { door = None; head = false; listings = []; log = s.log ++ Taken q ∷ [] }
  take_by None s = s

  -- the queue at the door is taken out
  abbrev pub take_state : CoreState W → CoreState W
  take_state s = take_by s.door s

  -- a release on the queue at the door asks that the value is not set, and that either the quick bit is set or the
  -- flag beside the list is raised, and not both
  abbrev pub CanSection : CoreState W → ℕ → Op W → Type 0
  CanSection s q (Release ready) = s.door ≡ Some q → (s.word.ready ≡ false) × (s.head ≡ not s.word.quick)
  CanSection s q op = Unit {0}

  -- what a release leaves, with these listings
  abbrev pub release_state : Bool → List (Listing W) → CoreState W → CoreState W
  release_state ready xs s = record s {
    word = record s.word { quick = false; ready = ready };
    head = if s.word.quick then s.head else false;
    listings = xs;
  }

  -- a task that leaves takes its listing out, and passes its turn on if it had one
  abbrev pub is_passing : ℕ → CoreState W → Bool
  is_passing n s = passes_turn (is_free (sees s.word s.head)) n s.listings

  -- what is left when the task with this ticket left
  abbrev pub leave_state : ℕ → CoreState W → CoreState W
  leave_state n s = record s { listings = left_list (is_passing n s) n s.listings }

  -- a claim takes the own listing out, and gives the ticket up
  abbrev pub claim_state : Op W → CoreState W → CoreState W
  claim_state op s = record s { head = true; listings = list_without (ticket_in op) s.listings }

module _ {W : Type 0} (same other : W → W → Type 0) where
  -- a section on the queue at the door, while some task holds. A listing that was not there is refused if memory is
  -- not given
  abbrev pub FindsHolder : CoreState W → Op W → Answer W → Op W → CoreState W → Type 0
  FindsHolder s (Look k) a o t = DidLook same other s.current (own_listing k s.listings) a × (t ≡ s) × (o ≡ Look k)
  FindsHolder s (ListOp k None) a o t = ⊥
  FindsHolder s (ListOp k (Some w)) a o t =
      ((a ≡ Memory) × (kept_ticket k s.listings ≡ None) × (s.granted ≡ false) × (t ≡ s) × (o ≡ ListOp k (Some w)))
      ⊎ ((a ≡ Listed) × ((is_some (kept_ticket k s.listings) || s.granted) ≡ true)
      × (t ≡ record s { listings = list_with (ticket_for k s.listings) w s.listings })
      × (o ≡ ListOp (Some (ticket_for k s.listings)) None))
  FindsHolder s op a o t = ⊥

  -- a look or a listing on the queue at the door, by what is seen
  pub record Found (s : CoreState W) (op : Op W) (a : Answer W) (o : Op W) (t : CoreState W) : Type 0 where
    pub set : sees s.word s.head ≡ Sees.Set → (a ≡ Ready) × (t ≡ s) × (o ≡ op)
    pub free : sees s.word s.head ≡ Sees.Free → (a ≡ Claimed) × (t ≡ claim_state op s) × (o ≡ without_ticket op)
    pub taken : sees s.word s.head ≡ Sees.Taken → FindsHolder s op a o t

  -- a section on the queue at the door
  abbrev pub AtDoor : CoreState W → Op W → Answer W → Op W → CoreState W → Type 0
  AtDoor s (Release ready) (Released out) o t =
      Releases same other ready s.listings out t.listings × (t ≡ release_state ready t.listings s)
      × (o ≡ Release ready)
  AtDoor s (Release ready) a o t = ⊥
  AtDoor s (Leave n) (Left w) o t =
      (w ≡ next_waker (is_passing n s) n s.listings) × (t ≡ leave_state n s) × (o ≡ Leave n)
  AtDoor s (Leave n) a o t = ⊥
  AtDoor s op a o t = Found s op a o t

  -- a section on the queue q: it is logged, and finds its queue at the door or gone
  pub record DidSection (s : CoreState W) (q : ℕ) (op : Op W) (a : Answer W) (o : Op W) (t : CoreState W) : Type 0 where
    pub here : s.door ≡ Some q → AtDoor (record s { log = s.log ++ Entered q ∷ [] }) op a o t
    pub gone : s.door ≢ Some q → (a ≡ Gone) × (t ≡ record s { log = s.log ++ Entered q ∷ [] }) × (o ≡ op)

  -- what each call tells and leaves, by the state before and the state after
  abbrev pub DidCall : CoreState W → Told W ℕ → CoreState W → Type 0
  -- the word
  DidCall s (Loaded w) t = (w ≡ s.word) × (t ≡ s)
  -- a quick claim is won if the word is NEW, and sets the quick bit
  DidCall s (TriedQuick won) t =
      (won ≡ is_zero s.word) × (t ≡ record s { word = if won then flags_alone true false else s.word })
  -- a fast release is done if the word is exactly the quick bit; it gives the right back, with the value set or not
  DidCall s (TriedFast fills won) t =
      (won ≡ is_quick_bit s.word) × (t ≡ record s { word = if won then flags_alone false fills else s.word })
  -- below the limit the count grows; at it nothing changes
  DidCall s (CountedIn true ready) t = (s.word.count < s.limit) × (ready ≡ s.word.ready) × (t ≡ counted_state s)
  DidCall s (CountedIn false ready) t = (s.limit ≤ s.word.count) × (ready ≡ s.word.ready) × (t ≡ s)
  -- one more is counted, whatever the limit
  DidCall s Added t = t ≡ counted_state s
  -- one less is counted; the answer is the word after
  DidCall s (CountedOut w) t = (w ≡ t.word) × (t ≡ record s { word = record s.word { count = s.word.count - 1 } })
  -- what stands at the door
  DidCall s (Got q) t = (q ≡ s.door) × (t ≡ s)
  -- what stands at the door after the put, if there was memory
  DidCall s (PutQueue q) t = (q ≡ put_answer s.granted s.door s.made) × (t ≡ put_state s.granted s.door s)
  -- whether a queue was taken out
  DidCall s (TakenOut stood) t = (stood ≡ is_some s.door) × (t ≡ take_state s)
  -- a section
  DidCall s (Was q op a o) t = DidSection s q op a o t
  -- of the other calls a core knows nothing
  DidCall s Refused t = t ≡ s
  DidCall s (Ran a) t = t ≡ s
  DidCall s PutValue t = t ≡ s

-- what each call asks: a task that counts out is counted, and if a line of the log is written, there is room for it
abbrev pub CanCall : {W : Type 0} {g : _} → Core W g → Call W ℕ → Type 0
CanCall s AddOne = s.word.count < 2 ^ 62 - 1
CanCall s CountOut = 0 < s.word.count
CanCall s DoorPut = HasRoom s
CanCall s DoorTake = HasRoom s
CanCall s (Section q op) = HasRoom s × CanSection (state_of s) q op
CanCall s _ = Unit {0}
