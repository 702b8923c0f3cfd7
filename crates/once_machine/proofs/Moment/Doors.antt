-- The moments at which a task reads or changes the door's page.
use Rattle.std.proofs.Common.{◌≡◌, ◌<◌, ℕ, suc, Bool, true, false, List, [], ⊎_elim, Option, Some, None, slice_get, slice_set, refl, sym, ap, ◌∙◌, arith}
use Rattle.std.specs.Prelude.{nat_lt, ◌||◌}
use Rattle.std.proofs.lemmas.Bool.Decides.{nat_tests}
use Rattle.once_machine.specs.Numbers.{bit}
use Rattle.once_machine.specs.Word.{Flags, flags_of}
use Rattle.once_machine.specs.Table.{Next, after_door_get, closing_end, next_at, next_end}
use Rattle.once_machine.specs.Record.{Entry, Once, RanPending}
use Rattle.once_machine.specs.Cell.{cell}
use Rattle.once_machine.specs.Book.{At, Door, IsBook, Page, Queue}
use Rattle.once_machine.specs.Machine.{AtCountIn, AtDoorAgain, AtDoorGet, AtDoorPut, AtDoorTake, AtRelease, EndMemory, Ending, Place, SharedState, Task, UnderWay}
use Rattle.once_machine.specs.Machine.{outcome_of, place_step, put_shared, take_shared, word_of}
use Rattle.once_machine.specs.Table.{after_door_again}
use Rattle.once_machine.proofs.Steps.{put_step}
use Rattle.once_machine.proofs.History.Cells.{holder_unset, none_some, set_free}
use Rattle.once_machine.proofs.Invariant.Kept.{releasing_holds}
use Rattle.once_machine.proofs.Place.FitsAfter.{headless}
use Rattle.once_machine.proofs.Moment.Pages.{door_of, set_here, set_other, zero_one, zero_task}
use Rattle.once_machine.proofs.Moment.Step.{Moment, Stepped, moment, stands, stepped, stepped_alone, stepped_still}
use Rattle.once_machine.proofs.Shared.Queue.{door_first}
use Rattle.once_machine.proofs.Shared.Slot.{is_put_at}

-- no flag stands
no_head : (a b : Bool) → false ≡ (a || b) → b ≡ false
no_head a b e = grind arith

-- no queue was put
none_put : (n : ℕ) → 0 ≡ bit (nat_lt 0 n) → n ≡ 0
none_put n e = grind (arith, nat_tests)

-- one was
some_put : (n : ℕ) → 1 ≡ bit (nat_lt 0 (suc n))
some_put n = grind (arith, nat_tests)

module _ (limit n put : ℕ) (slot : Bool) (pages : List Page) (log : List Entry) (t : ℕ) (x : Task) (some : 0 < limit)
    (book : IsBook limit n put slot pages log) (pen : slice_get pages (suc (suc t)) ≡ Some (At x)) where
  -- what all tasks share, and the book of it
  abbrev c : SharedState
  c = book.0.shared

  -- what holds at the moment
  abbrev m : Moment limit n put slot pages log t x
  m = moment t some book pen

  -- the book once t went on so, if no other page changed
  abbrev Steps : Next ℕ ℕ → Type 0
  Steps next = Stepped limit n put slot pages log t x [] next

  -- nobody holds under the lock if the value is set
  set_headless : c.ready ≡ true → c.head ≡ false
  set_headless r = no_head c.quick c.head (sym (set_free (cell Once m.w.history) (sym m.fits.shared.ready_is ∙ r)) ∙ m.fits.shared.held_is)

  -- the value is set when the queue is taken out of the door
  taken_ready : (e : Ending) → x.step ≡ UnderWay (AtDoorTake e) → c.ready ≡ true
  taken_ready e at = (stands t some book pen (AtDoorTake e) at).1

  -- AtDoorTake if no queue was ever put: the load of the flag that says so
  pub take_none : (e : Ending) → x.step ≡ UnderWay (AtDoorTake e) → put ≡ 0 → Steps (next_end e)
  take_none e at z =
      let r = taken_ready e at in
      let d : c.door ≡ None = m.unowned.queue.unput (none_put c.queues (sym z ∙ book.1.put_is)) in
      stepped_alone t some book pen n false (AtDoorTake e) (take_shared c) [] (next_end e) at refl book.1.within book.1.word_is book.1.put_is
      (book.1.door_is ∙ ap (λ q. Some (Door c.queues q)) d)
      (book.1.queue_is ∙ ap (λ h. Some (Queue h c.listings)) (set_headless r) ∙ ap (λ ys. Some (Queue false ys)) (m.unowned.queue.set_empty r))

  module _ (made : ℕ) (door : Option ℕ) (there : slice_get pages 0 ≡ Some (Door made door)) where
    -- the door is that of its page
    own_door : (c.queues ≡ made) × (c.door ≡ door)
    own_door = door_of c.queues made c.door door (sym book.1.door_is ∙ there)

    -- AtDoorGet: what stands at the door is read
    pub door_get : x.step ≡ UnderWay AtDoorGet → Steps (after_door_get door)
    door_get at = stepped_still t some book pen false (after_door_get door) at (ap (λ d. outcome_of c t x.kept [] (after_door_get d)) own_door.1)

    -- AtDoorAgain: the queue that a holder finds there is the first
    pub door_again : (e : Ending) → x.step ≡ UnderWay (AtDoorAgain e) → (door ≡ Some 1) × Steps (next_at (AtRelease 1 e))
    door_again e at =
        let a = stands t some book pen (AtDoorAgain e) at in
        let r : c.ready ≡ false = m.fits.shared.ready_is ∙ holder_unset t (cell Once m.w.history) (releasing_holds Once t c m.w.history e a.0) in
        let d : c.door ≡ Some 1 = a.2.1 ∙ ap (λ (q : ℕ). Some q) (door_first c a.2.0 m.unowned.queue r a.2.1) in (
          sym own_door.1 ∙ d,
          stepped_still t some book pen false (next_at (AtRelease 1 e)) at (ap (λ q. outcome_of c t x.kept [] (after_door_again q e)) d),
        )

    -- AtDoorPut if another task put a queue first
    pub put_found : (q : ℕ) → x.step ≡ UnderWay AtDoorPut → door ≡ Some q → Steps (next_at (AtCountIn q))
    put_found q at e = stepped_still t some book pen true (next_at (AtCountIn q)) at (ap (λ d. put_step true d c t x.kept) (own_door.1 ∙ e))

    -- AtDoorPut if memory is refused
    pub put_refused : x.step ≡ UnderWay AtDoorPut → Steps (closing_end EndMemory)
    put_refused at = stepped_still t some book pen false (closing_end EndMemory) at refl

    -- a step by which the door's page changes
    door_set : (put' made' : ℕ) (door' : Option ℕ) (p : Place ℕ ℕ) (g : Bool) (c' : SharedState) (next : Next ℕ ℕ) → x.step ≡ UnderWay p
        → place_step false limit c t x.waker x.kept RanPending g p ≡ outcome_of c' t x.kept [] next
        → flags_of n ≡ word_of c' → put' ≡ bit (nat_lt 0 c'.queues) → c'.queues ≡ made' → c'.door ≡ door' → c'.head ≡ c.head → c'.listings ≡ c.listings
        → Stepped limit n put' (is_put_at p || slot) (slice_set pages 0 (Door made' door')) log t x [] next
    door_set put' made' door' p g c' next at is word pu q d b l =
        stepped t some book pen n put' (slice_set pages 0 (Door made' door')) RanPending g p c' x.kept [] next tt at is book.1.within word pu
        (set_here pages 0 (Door made door) (Door made' door') there ∙ ap (λ k. Some (Door k door')) (sym q) ∙ ap (λ o. Some (Door c'.queues o)) (sym d))
        (set_other pages 0 1 (Door made' door') zero_one ∙ book.1.queue_is ∙ ap (λ h. Some (Queue h c.listings)) (sym b) ∙ ap (λ ys. Some (Queue c'.head ys)) (sym l))
        (λ u. set_other pages 0 (suc (suc u)) (Door made' door') (zero_task u))

    -- AtDoorPut if no queue stands there: a new one is put. The queue's page is left, since nobody is listed there
    pub put_new : x.step ≡ UnderWay AtDoorPut → door ≡ None
        → Stepped limit n 1 slot (slice_set pages 0 (Door (suc made) (Some (suc made)))) log t x [] (next_at (AtCountIn (suc made)))
    put_new at e =
        let d : c.door ≡ None = own_door.1 ∙ e in
        door_set 1 (suc made) (Some (suc made)) AtDoorPut true (put_shared (Some (suc c.queues)) None c) (next_at (AtCountIn (suc made))) at
        (ap (λ d. put_step true d c t x.kept) d ∙ ap (λ q. outcome_of (put_shared (Some (suc c.queues)) None c) t x.kept [] (next_at (AtCountIn (suc q)))) own_door.0)
        book.1.word_is (some_put c.queues) (ap suc own_door.0) (ap (λ q. Some (suc q)) own_door.0)
        (sym (headless Once limit c m.w.history m.fits.shared d)) (sym (m.unowned.queue.bare d))

    -- before the value is set it is the first
    pub put_first : x.step ≡ UnderWay AtDoorPut → door ≡ None → (flags_of n).ready ≡ false → made ≡ 0
    put_first at e r =
        let u : c.ready ≡ false = ap (λ (f : Flags). f.ready) (sym book.1.word_is) ∙ r in
        ⊎_elim (λ a. sym own_door.0 ∙ a.0) (λ a. absurd (none_some 1 (sym (own_door.1 ∙ e) ∙ a.1))) (m.unowned.queue.first u)

    -- AtDoorTake: the queue is taken out of the door. The queue's page is left, since a set cell lists nobody
    pub door_take : (e : Ending) → x.step ≡ UnderWay (AtDoorTake e) → Stepped limit n put slot (slice_set pages 0 (Door made None)) log t x [] (next_end e)
    door_take e at =
        let r = taken_ready e at in
        door_set put made None (AtDoorTake e) false (take_shared c) (next_end e) at refl book.1.word_is book.1.put_is own_door.0 refl
        (sym (set_headless r)) (sym (m.unowned.queue.set_empty r))
