-- What a task knows of the door, of the queue and of the word by where it stands.
use Rattle.std.proofs.Common.{◌≡◌, ◌<◌, ℕ, suc, Bool, true, false, cond, ◌||◌, List, [], ◌∷◌, ◌++◌, Option, Some, None, slice_get, ◌⊎◌, inl, inr, ⊎_elim, refl, sym, ap, ◌∙◌, subst, arith}
use Rattle.std.specs.Option.{is_some, option_flatten}
use Rattle.std.proofs.lemmas.Option.{none-some, same_Some}
use Rattle.once_machine.specs.Word.{Flags, flags_of, sees}
use Rattle.once_machine.specs.declared.waiters.Listing.{Listing}
use Rattle.once_machine.specs.Listings.{find_listing, is_waker, own_listing}
use Rattle.once_machine.specs.Record.{Entry, Once}
use Rattle.once_machine.specs.Cell.{cell}
use Rattle.once_machine.specs.Table.{call_at, next_at}
use Rattle.once_machine.specs.Tasks.{LastCall, last_call}
use Rattle.once_machine.proofs.Listing.Members.{eqb_self}
use Rattle.async_once_cell.specs.Kept.{has_passed, hands_out}
use Rattle.once_machine.specs.Book.{At, Door, IsBook, Page, Queue, TaskState}
use Rattle.once_machine.specs.declared.step.Place.TheVariants.{CountOut as AtCountOut, DoorTake as AtDoorTake, Leave as AtLeave, List as AtList, Look as AtLook, Release as AtRelease}
use Rattle.once_machine.specs.declared.step.Ending.TheVariants.{Dropped as EndDropped, Memory as EndMemory}
use Rattle.once_machine.specs.declared.step.Ending.{Ending}
use Rattle.once_machine.specs.declared.step.Place.{Place}
use Rattle.once_machine.specs.declared.step.Rest.TheVariants.{Wait as RestWait}
use Rattle.once_machine.specs.declared.step.Step.TheVariants.{Resting}
use Rattle.once_machine.specs.Machine.{SharedState, look_answer, pass_entries}
use Rattle.once_machine.specs.declared.step.Step.TheVariants.{UnderWay}
use Rattle.once_machine.proofs.History.Cells.{holder_unset, set_free}
use Rattle.once_machine.proofs.Input.Headline.{task_fits}
use Rattle.once_machine.proofs.Invariant.Facts.{AtPlace, AtStep, MayLeave}
use Rattle.once_machine.proofs.Invariant.Kept.{releasing_holds}
use Rattle.once_machine.proofs.Moment.Pages.{door_of, queue_of}
use Rattle.once_machine.proofs.Moment.Step.{Moment, grown, moment, stands, told}
use Rattle.once_machine.proofs.Told.Wakers.{look_own, own_wakers}
use Rattle.async_once_cell.specs.Inner.Page.{queue_of as section_queue}
use Rattle.async_once_cell.specs.Inner.Sections.{IsOwnListing, IsSection}

-- the queue of a section stands at the door
stood_at : (limit t : ℕ) (c : SharedState) (h : List Entry) (p : Place ℕ ℕ) → IsSection (call_at p) → AtPlace Once limit t c h p → c.door ≡ Some (section_queue (call_at p))
stood_at limit t c h (AtLook q k) is a = a.1
stood_at limit t c h (AtList q k w) is a = a.1
stood_at limit t c h (AtRelease q e) is a = a.2
stood_at limit t c h (AtLeave q n e) is a = a.1
stood_at limit t c h _ is a = absurd is

-- no flag stands
no_head : (a b : Bool) → false ≡ (a || b) → b ≡ false
no_head a b e = grind arith

-- a task that is about to leave has not passed its turn on in this poll or drop
leaves_unpassed : (t : ℕ) (h : List Entry) (e : Ending) → MayLeave Once t h e → (last_call Once t h).passed ≡ false
leaves_unpassed t h EndMemory l = l.0.poll.unpassed
leaves_unpassed t h EndDropped l = l.2
leaves_unpassed t h _ l = absurd l

-- after it passed its turn on to these, or to nobody
passed_after : (t : ℕ) (h : List Entry) (X : List ℕ) → (last_call Once t h).passed ≡ false → (last_call Once t (pass_entries t X ++ h)).passed ≡ hands_out X
passed_after t h [] u = u
passed_after t h (y ∷ X) u = let p : LastCall = last_call Once t h in ap (λ b. (cond b (record p { passed = true }) p).passed) (eqb_self t)

-- whose the waker is that is found, by whether the value is set
own_found : (b : Bool) (t k v l : ℕ) (xs : List (Listing ℕ)) → (b ≡ true → xs ≡ [])
    → (b ≡ false → (find_listing k xs ≡ Some (Some l)) ⊎ (find_listing k xs ≡ Some None)) → l ≡ t
    → find_listing k xs ≡ Some (Some v) → v ≡ t
own_found true t k v l xs empty is own found = absurd (none-some (Some v) (subst (λ ys. find_listing k ys ≡ Some (Some v)) (empty refl) found))
own_found false t k v l xs empty is own found = ⊎_elim
    (λ e. same_Some v l (same_Some (Some v) (Some l) (sym found ∙ e)) ∙ own)
    (λ e. absurd (none-some v (same_Some None (Some v) (sym e ∙ found)))) (is refl)

module _ {limit n put : ℕ} {slot : Bool} {pages : List Page} {log : List Entry} (t : ℕ) {x : TaskState} (some : 0 < limit)
    (book : IsBook limit n put slot pages log) (pen : slice_get pages (suc (suc t)) ≡ Some (At x)) where
  -- what all tasks share
  abbrev c : SharedState
  c = book.0.shared

  -- what holds at the moment
  abbrev m : Moment limit n put slot pages log t x
  m = moment t some book pen

  -- what stands for the task at its place
  at_place : (p : Place ℕ ℕ) → x.step ≡ UnderWay p → AtPlace Once limit t c m.w.history p
  at_place p at = stands t some book pen p at

  -- the value is not set while a holder is about to give the right back
  pub unset_at : (q : ℕ) (e : Ending) → x.step ≡ UnderWay (AtRelease q e) → (flags_of n).ready ≡ false
  unset_at q e at =
      let a = at_place (AtRelease q e) at in
      ap (λ (f : Flags). f.ready) book.1.word_is ∙ m.fits.shared.ready_is ∙ holder_unset t (cell Once m.w.history) (releasing_holds Once t c m.w.history e a.0)

  -- a waiter that leaves has passed its turn on exactly if it hands somebody out
  pub passed_at : {q k : ℕ} {e : Ending} → x.step ≡ UnderWay (AtLeave q k e) → (X : List ℕ)
      → has_passed t (log ++ told t x.kept (next_at (AtCountOut e)) (pass_entries t X)) ≡ hands_out X
  passed_at {q = q} {k = k} {e = e} at X =
      let a = leaves_unpassed t m.w.history e (at_place (AtLeave q k e) at).0 in
      ap (λ l. (last_call Once t l).passed) (sym (grown m.w.history log (pass_entries t X) book.1.log_is)) ∙ passed_after t m.w.history X a

  -- the queue of a section stands at the door
  pub door_at : {made : ℕ} {door : Option ℕ} → slice_get pages 0 ≡ Some (Door made door) → (p : Place ℕ ℕ) → IsSection (call_at p) → x.step ≡ UnderWay p → door ≡ Some (section_queue (call_at p))
  door_at {made = made} {door = door} there p is at =
      sym (door_of c.queues made c.door door (sym book.1.door_is ∙ there)).1 ∙ stood_at limit t c m.w.history p is (at_place p at)

  module _ {head : Bool} {xs : List (Listing ℕ)} (queue : slice_get pages 1 ≡ Some (Queue head xs)) where
    -- when the queue is taken out of the door, nobody holds under the lock, and nobody is listed
    pub bare_at : (e : Ending) → x.step ≡ UnderWay (AtDoorTake e) → (head ≡ false) × (xs ≡ [])
    bare_at e at =
        let own = queue_of c.head head c.listings xs (sym book.1.queue_is ∙ queue) in
        let r : c.ready ≡ true = (at_place (AtDoorTake e) at).1 in
        let free : c.head ≡ false = no_head c.quick c.head (sym (set_free (cell Once m.w.history) (sym m.fits.shared.ready_is ∙ r)) ∙ m.fits.shared.held_is) in
        (sym own.0 ∙ free, sym own.1 ∙ m.unowned.queue.set_empty r)

    -- a task at rest: if its listing has a waker, that is its own
    pub own_at : (q k : ℕ) → x.step ≡ Resting (RestWait q (Some k)) → IsOwnListing k t xs
    own_at q k at v found =
        let own = queue_of c.head head c.listings xs (sym book.1.queue_is ∙ queue) in
        let a = subst (λ s. AtStep Once limit t c m.w.history s) at (task_fits Once limit t m.w x m.fits m.found).step in
        let listed : (last_call Once t m.w.history).listed ≡ t = (own_wakers limit t m.w.history m.fits.run m.unowned.plain).waits a.0.0.status_is in
        own_found c.ready t k v (last_call Once t m.w.history).listed c.listings m.unowned.queue.set_empty
        (λ r. ⊎_elim inl (λ e. inr e.0) (a.0.2.1 r)) listed (ap (find_listing k) own.1 ∙ found)

    -- a look need not compare wakers, by whether the value is set: if its own listing has a waker, that is its own
    look_by : (q : ℕ) (k : Option ℕ) → x.step ≡ UnderWay (AtLook q k) → (r : Bool) → (flags_of n).ready ≡ r
        → look_answer (Some (sees (flags_of n) head)) (is_waker x.waker (own_listing k xs)) ≡ look_answer (Some (sees (flags_of n) head)) (is_some (option_flatten (own_listing k xs)))
    look_by q k at true e = rw e refl
    look_by q k at false e = ap (look_answer (Some (sees (flags_of n) head))) (look_own limit n put slot pages log t x some book pen head xs queue q k at e)

    pub look_is : (q : ℕ) (k : Option ℕ) → x.step ≡ UnderWay (AtLook q k)
        → look_answer (Some (sees (flags_of n) head)) (is_waker x.waker (own_listing k xs)) ≡ look_answer (Some (sees (flags_of n) head)) (is_some (option_flatten (own_listing k xs)))
    look_is q k at = look_by q k at (flags_of n).ready refl
