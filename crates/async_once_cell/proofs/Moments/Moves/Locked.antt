-- The moves under the lock, with the pens of the door's page, the queue's and the task's.
use Rattle.std.proofs.Common.{◌≡◌, ◌+◌, ◌%◌, ◌^◌, ℕ, suc, Bool, true, false, List, [], ◌∷◌, ◌++◌, Option, Some, None, slice_set, refl, sym, ◌∙◌, subst}
use Rattle.std.proofs.lemmas.List.{append-nil}
use Rattle.pagebook.specs.Pages.{Held, Moves, Notes, put as put_on}
use Rattle.once_machine.specs.declared.waiters.Answer.{Answer as SectionAnswer}
use Rattle.once_machine.specs.declared.waiters.Op.TheVariants.{Look, List as ListOwn, Release, Leave}
use Rattle.once_machine.specs.Table.{Call, Next, Section, after, after_door_get, after_look, call_at, next_at, next_end}
use Rattle.once_machine.specs.declared.record.Ran.TheVariants.{Pending as RanPending}
use Rattle.once_machine.specs.Record.{Entry}
use Rattle.once_machine.specs.Book.{At, Door, IsBook, Page, Queue, TaskState}
use Rattle.once_machine.specs.declared.step.Place.TheVariants.{CountIn as AtCountIn, CountOut as AtCountOut, DoorAgain as AtDoorAgain, DoorGet as AtDoorGet}
use Rattle.once_machine.specs.declared.step.Place.TheVariants.{DoorPut as AtDoorPut, DoorTake as AtDoorTake, Leave as AtLeave, List as AtList, Look as AtLook}
use Rattle.once_machine.specs.declared.step.Place.TheVariants.{Release as AtRelease}
use Rattle.once_machine.specs.Machine.{claim_entries, head_after, is_claim, is_value, looked_list, records, release_list, release_wakers}
use Rattle.once_machine.specs.declared.step.Ending.{Ending}
use Rattle.once_machine.specs.declared.step.Place.{Place}
use Rattle.once_machine.specs.declared.step.Rest.TheVariants.{Wait as RestWait}
use Rattle.once_machine.specs.declared.step.Step.TheVariants.{Resting, UnderWay}
use Rattle.once_machine.proofs.Moment.Doors.{door_again, door_get, door_take, put_found, put_new}
use Rattle.once_machine.proofs.Moment.Numbers.{release_more}
use Rattle.once_machine.proofs.Moment.Pages.{set_other, zero_one}
use Rattle.once_machine.proofs.Moment.Sections.{leave_load, list_load, look_load, release_add}
use Rattle.once_machine.proofs.Moment.Step.{Stepped, told}
use Rattle.once_machine.proofs.Steps.{look_same}
use Rattle.once_machine.proofs.Told.Listings.{fill_hands_all}
use Rattle.async_once_cell.specs.Kept.{IsKept, Leaves, locked, most, sheets}
use Rattle.async_once_cell.specs.Inner.Desk.{Desked}
use Rattle.async_once_cell.specs.Inner.Page.{queue_of}
use Rattle.async_once_cell.specs.Inner.Sections.{IsOwnListing, IsSection, SectionShows, desk_put, looked, listed, more_released, section_desk, section_hands, section_told}
use Rattle.async_once_cell.proofs.Moments.Forms.{AreOn, notes, put_moves, set_same, telling_moves}
use Rattle.async_once_cell.proofs.Moments.Mine.{AreOf, OnlyOf, claim_of, only_locked, pass_of, release_of, told_of}
use Rattle.async_once_cell.proofs.Moments.Facts.{bare_at, door_at, look_is, own_at, passed_at, unset_at}
use Rattle.async_once_cell.proofs.Moments.Moves.Words.{some}

-- what a release adds
more_is : (fills head : Bool) → release_more fills head ≡ more_released fills head
more_is true true = refl
more_is true false = refl
more_is false true = refl
more_is false false = refl

module _ (seen : List Entry) (d : Desked) (t : ℕ) (x : TaskState) where
  -- the hand: both pages under the lock, and that of t
  abbrev pub all : Held Page
  all = locked d.made d.door d.head d.listings t x

  -- the three pages after a step: these two, and that of x at the step to which the table leads
  abbrev pub pages_after : Desked → Next ℕ ℕ → List Page
  pages_after e next = Door e.made e.door ∷ Queue e.head e.listings ∷ At (record x { step = next.step }) ∷ []

  -- the book once t made a step on these pages
  abbrev Makes : ℕ → ℕ → Bool → List Page → List Entry → List Entry → Next ℕ ℕ → Type 0
  Makes n put slot pages log did next = Stepped most n put slot pages log t x did next

  -- what the task did is its own
  only : (did : List Entry) (next : Next ℕ ℕ) → AreOf t did → OnlyOf all (told t x.kept next did)
  only did next a = only_locked d.made d.door d.head d.listings t x (told t x.kept next did) (told_of t x.kept next did a)

  module _ (n put : ℕ) (slot : Bool) (pages : List Page) (log : List Entry) (did : List Entry) (next : Next ℕ ℕ) (on : AreOn all pages) where
    -- the book with these three pages set
    abbrev Set : Desked → Type 0
    Set e = IsBook most n put slot (put_on (pages_after e next) all pages) (log ++ told t x.kept next did)

    -- if only the queue's page changes besides the own one
    only_queue : (e : Desked) → e.made ≡ d.made → e.door ≡ d.door → Makes n put slot (slice_set pages 1 (Queue e.head e.listings)) log did next → Set e
    only_queue e made door s =
        subst (λ ps. Makes n put slot (slice_set ps 1 (Queue e.head e.listings)) log did next)
        (sym (set_same pages 0 (Door d.made d.door) on.0) ∙ (λ i. slice_set pages 0 (Door (sym made i) (sym door i)))) s

    -- if only the door's does
    only_door : (m : ℕ) (q : Option ℕ) → Makes n put slot (slice_set pages 0 (Door m q)) log did next → Set (record d { made = m; door = q })
    only_door m q s =
        let here = set_other pages 0 1 (Door m q) zero_one ∙ on.1.0 in
        subst (λ ps. Makes n put slot ps log did next) (sym (set_same (slice_set pages 0 (Door m q)) 1 (Queue d.head d.listings) here)) s

    -- if neither does
    only_own : Makes n put slot pages log did next → Set d
    only_own s = only_queue d refl refl (subst (λ ps. Makes n put slot ps log did next) (sym (set_same pages 1 (Queue d.head d.listings) on.1.0)) s)

  -- the word that a section leaves
  abbrev pub section_word : Call ℕ ℕ → ℕ → ℕ
  section_word (Section q (Release fills)) n = (n + more_released fills d.head) % 2 ^ 64
  section_word c n = n

  -- what it records
  abbrev pub section_entries : Bool → ℕ → Call ℕ ℕ → List Entry
  section_entries room n c = records (section_told room n d c) RanPending t x.kept (section_hands n d c)

  -- that is of t
  pub section_of_t : (room : Bool) (n : ℕ) (c : Call ℕ ℕ) → AreOf t (section_entries room n c)
  section_of_t room n (Section q (Look k)) = claim_of t (is_claim (looked n k d))
  section_of_t room n (Section q (ListOwn k w)) = claim_of t (is_claim (listed n k room d))
  section_of_t room n (Section q (Release fills)) = release_of t x.kept (release_wakers fills d.listings)
  section_of_t room n (Section q (Leave k)) = pass_of t (section_hands n d (Section q (Leave k)))
  section_of_t room n _ = tt

  -- where a section leads
  abbrev pub section_next : Bool → ℕ → Place ℕ ℕ → Next ℕ ℕ
  section_next room n p = after (Some x.waker) p (section_told room n d (call_at p))

  -- the book after it
  section_step : (room : Bool) (p : Place ℕ ℕ) → x.step ≡ UnderWay p → IsSection (call_at p)
      → (n put : ℕ) (slot : Bool) (pages : List Page) (log : List Entry) → IsBook most n put slot pages log → AreOn all pages
      → let e = section_desk room n d (call_at p) in
      Makes (section_word (call_at p) n) put slot (slice_set pages 1 (Queue e.head e.listings)) log (section_entries room n (call_at p)) (section_next room n p)
  section_step room (AtLook q k) at is n put slot pages log book on =
      let a : SectionAnswer ℕ = looked n k d in
      let Looks : SectionAnswer ℕ → Next ℕ ℕ → Type 0 = λ a next.
      Makes n put slot (slice_set pages 1 (Queue (head_after a d.head) (looked_list a k d.listings))) log (claim_entries (is_claim a) t) next in
      subst (Looks a) (sym (look_same a (Some x.waker) q k))
      (subst (λ a. Looks a (after_look a (Some x.waker) q k)) (look_is t some book on.1.1.0 on.1.0 q k at)
      (look_load most n put slot pages log t x some book on.1.1.0 d.head d.listings on.1.0 q k true at))
  section_step room (AtList q k w) at is n put slot pages log book on = list_load most n put slot pages log t x some book on.1.1.0 d.head d.listings on.1.0 q k w room at
  section_step room (AtRelease q e) at is n put slot pages log book on =
      let r : Bool = is_value e in
      subst (λ m. Makes ((n + m) % 2 ^ 64) put slot (slice_set pages 1 (Queue false (release_list r d.listings))) log (section_entries room n (Section q (Release r))) (next_at (AtCountOut e)))
      (more_is r d.head)
      (release_add most n put slot pages log t x some book on.1.1.0 d.head d.listings on.1.0 q e at)
  section_step room (AtLeave q k e) at is n put slot pages log book on = leave_load most n put slot pages log t x some book on.1.1.0 d.head d.listings on.1.0 q k e at
  section_step room _ at is n put slot pages log book on = absurd is

  -- what is known besides
  section_shows : (room : Bool) (p : Place ℕ ℕ) → x.step ≡ UnderWay p
      → (n put : ℕ) (slot : Bool) (pages : List Page) (log : List Entry) → IsBook most n put slot pages log → AreOn all pages
      → SectionShows n d (call_at p) t (log ++ told t x.kept (section_next room n p) (section_entries room n (call_at p)))
  section_shows room (AtRelease q e) at n put slot pages log book on =
      λ v u. fill_hands_all most n put slot pages log some book d.head d.listings on.1.0 (unset_at t some book on.1.1.0 q e at) u
  section_shows room (AtLeave q k e) at n put slot pages log book on = passed_at t some book on.1.1.0 at (section_hands n d (Section q (Leave k)))
  section_shows room _ at n put slot pages log book on = tt

  -- it changes nothing of the door's page
  section_door : (room : Bool) (n : ℕ) (c : Call ℕ ℕ) → let e = section_desk room n d c in (e.made ≡ d.made) × (e.door ≡ d.door)
  section_door room n (Section q (Look k)) = (refl, refl)
  section_door room n (Section q (ListOwn k (Some w))) = (refl, refl)
  section_door room n _ = (refl, refl)

  -- the section of a task's place
  pub section_moves : (room : Bool) (p : Place ℕ ℕ) → x.step ≡ UnderWay p → IsSection (call_at p)
      → Moves IsKept (seen, sheets seen all) 0 (section_word (call_at p))
      (λ n v. SectionShows n d (call_at p) t v.0
      × Leaves seen all (pages_after (section_desk room n d (call_at p)) (section_next room n p)) (told t x.kept (section_next room n p) (section_entries room n (call_at p))) v)
  section_moves room p at is = telling_moves seen all (section_word (call_at p))
      (λ n. pages_after (section_desk room n d (call_at p)) (section_next room n p)) (λ n. told t x.kept (section_next room n p) (section_entries room n (call_at p)))
      (λ n log. SectionShows n d (call_at p) t log) (λ n. only (section_entries room n (call_at p)) (section_next room n p) (section_of_t room n (call_at p)))
      (λ n put slot pages log book on.
      let c : Call ℕ ℕ = call_at p in
      let door = section_door room n c in (
        section_shows room p at n put slot pages log book on,
        only_queue (section_word c n) put slot pages log (section_entries room n c) (section_next room n p) on (section_desk room n d c) door.0 door.1
            (section_step room p at is n put slot pages log book on),
      ))

  -- a note by which t goes on so, and nothing changes but its page
  own_notes : (next : Next ℕ ℕ) (P : Type 0)
      → ((n put : ℕ) (slot : Bool) (pages : List Page) (log : List Entry) → IsBook most n put slot pages log → AreOn all pages → P × Makes n put slot pages log [] next)
      → Notes IsKept (seen, sheets seen all) (λ v. P × Leaves seen all (pages_after d next) (told t x.kept next []) v)
  own_notes next P goes = notes seen all (pages_after d next) (told t x.kept next []) P (only [] next tt)
      (λ n put slot pages log book on. let r = goes n put slot pages log book on in (r.0, only_own n put slot pages log [] next on r.1))

  -- AtDoorGet
  pub get_notes : x.step ≡ UnderWay AtDoorGet
      → Notes IsKept (seen, sheets seen all) (λ v. Unit {0} × Leaves seen all (pages_after d (after_door_get d.door)) (told t x.kept (after_door_get d.door) []) v)
  get_notes at = own_notes (after_door_get d.door) (Unit {0})
      (λ n put slot pages log book on. (tt, door_get most n put slot pages log t x some book on.1.1.0 d.made d.door on.0 at))

  -- AtDoorAgain: the first queue stands at the door
  pub again_notes : (e : Ending) → x.step ≡ UnderWay (AtDoorAgain e)
      → Notes IsKept (seen, sheets seen all) (λ v. (d.door ≡ Some 1) × Leaves seen all (pages_after d (next_at (AtRelease 1 e))) (told t x.kept (next_at (AtRelease 1 e)) []) v)
  again_notes e at = own_notes (next_at (AtRelease 1 e)) (d.door ≡ Some 1)
      (λ n put slot pages log book on. door_again most n put slot pages log t x some book on.1.1.0 d.made d.door on.0 e at)

  -- AtDoorPut if a queue stands already
  pub found_notes : (q : ℕ) → x.step ≡ UnderWay AtDoorPut → d.door ≡ Some q
      → Notes IsKept (seen, sheets seen all) (λ v. Unit {0} × Leaves seen all (pages_after d (next_at (AtCountIn q))) (told t x.kept (next_at (AtCountIn q)) []) v)
  found_notes q at there = own_notes (next_at (AtCountIn q)) (Unit {0})
      (λ n put slot pages log book on. (tt, put_found most n put slot pages log t x some book on.1.1.0 d.made d.door on.0 q at there))

  -- AtDoorPut if none stands: a store of 1 says that a queue was put
  pub new_moves : x.step ≡ UnderWay AtDoorPut → d.door ≡ None
      → Moves IsKept (seen, sheets seen all) 1 (λ k. 1)
      (λ k v. Leaves seen all (pages_after (desk_put d) (next_at (AtCountIn (suc d.made)))) (told t x.kept (next_at (AtCountIn (suc d.made))) []) v)
  new_moves at none = put_moves seen all (λ k. 1)
      (λ k. pages_after (desk_put d) (next_at (AtCountIn (suc d.made)))) (λ k. told t x.kept (next_at (AtCountIn (suc d.made))) [])
      (λ k. only [] (next_at (AtCountIn (suc d.made))) tt)
      (λ n put slot pages log book on. only_door n 1 slot pages log [] (next_at (AtCountIn (suc d.made))) on (suc d.made) (Some (suc d.made))
      (put_new most n put slot pages log t x some book on.1.1.0 d.made d.door on.0 at none))

  -- AtDoorTake: nobody holds under the lock, and nobody is listed
  pub take_notes : (e : Ending) → x.step ≡ UnderWay (AtDoorTake e)
      → Notes IsKept (seen, sheets seen all)
      (λ v. ((d.head ≡ false) × (d.listings ≡ [])) × Leaves seen all (pages_after (record d { door = None }) (next_end e)) (told t x.kept (next_end e) []) v)
  take_notes e at = notes seen all (pages_after (record d { door = None }) (next_end e)) (told t x.kept (next_end e) []) ((d.head ≡ false) × (d.listings ≡ [])) (only [] (next_end e) tt)
      (λ n put slot pages log book on. (
        bare_at t some book on.1.1.0 on.1.0 e at,
        only_door n put slot pages log [] (next_end e) on d.made None (door_take most n put slot pages log t x some book on.1.1.0 d.made d.door on.0 e at),
      ))

  -- a note of what is so; the machine makes no step
  still_notes : (P : Type 0) → ((n put : ℕ) (slot : Bool) (pages : List Page) (log : List Entry) → IsBook most n put slot pages log → AreOn all pages → P)
      → Notes IsKept (seen, sheets seen all) (λ v. P × Leaves seen all [] [] v)
  still_notes P so = notes seen all [] [] P (only_locked d.made d.door d.head d.listings t x [] tt)
      (λ n put slot pages log book on. (so n put slot pages log book on, subst (IsBook most n put slot pages) (sym (append-nil log)) book))

  -- when a section begins, its queue stands at the door
  pub stand_notes : (p : Place ℕ ℕ) → IsSection (call_at p) → x.step ≡ UnderWay p
      → Notes IsKept (seen, sheets seen all) (λ v. (d.door ≡ Some (queue_of (call_at p))) × Leaves seen all [] [] v)
  stand_notes p is at = still_notes (d.door ≡ Some (queue_of (call_at p)))
      (λ n put slot pages log book on. door_at t some book on.1.1.0 on.0 p is at)

  -- a task at rest comes to its listing, which is its own
  pub rest_notes : (q k : ℕ) → x.step ≡ Resting (RestWait q (Some k)) → Notes IsKept (seen, sheets seen all) (λ v. IsOwnListing k t d.listings × Leaves seen all [] [] v)
  rest_notes q k at = still_notes (IsOwnListing k t d.listings)
      (λ n put slot pages log book on. own_at t some book on.1.1.0 on.1.0 q k at)
