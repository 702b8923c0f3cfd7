-- The moments under the cell's lock: the queue's page changes, and that of the task.
use Rattle.std.proofs.Common.{◌≡◌, ◌<◌, ◌+◌, ◌%◌, ◌^◌, ℕ, suc, Bool, true, false, cond, List, [], ◌∷◌, Option, Some, None, slice_get, slice_set, refl, sym, ap, ◌∙◌}
use Rattle.std.specs.Prelude.{◌||◌, not}
use Rattle.std.specs.Option.{is_some, option_to_list}
use Rattle.once_machine.specs.Word.{Flags, flags_of, sees, sees_by, is_free}
use Rattle.once_machine.specs.declared.waiters.Listing.{Listing}
use Rattle.once_machine.specs.declared.waiters.Answer.{Answer as SectionAnswer}
use Rattle.once_machine.specs.Listings.{is_waker, kept_ticket, left_list, next_waker, own_listing, passes_turn}
use Rattle.once_machine.specs.Table.{Next, after_list, after_look, next_at}
use Rattle.once_machine.specs.Record.{Entry, Once, RanPending}
use Rattle.once_machine.specs.Cell.{cell}
use Rattle.once_machine.specs.Book.{At, Door, IsBook, Page, Queue}
use Rattle.once_machine.specs.Machine.{AtCountOut, AtLeave, AtList, AtLook, AtRelease, Ending, Place, SharedState, Task, UnderWay, claim_entries, head_after}
use Rattle.once_machine.specs.Machine.{is_claim, is_passing, is_value, list_answer, list_shared, listed_list, listed_ticket, look_answer}
use Rattle.once_machine.specs.Machine.{look_shared, looked_list, outcome_of, pass_entries, place_step, seen_at, seen_by, release_entry, release_flags}
use Rattle.once_machine.specs.Machine.{release_list, release_wakers, word_of}
use Rattle.once_machine.proofs.Steps.{leave_step, list_step, look_same, look_step, release_step}
use Rattle.once_machine.proofs.History.Cells.{holder_unset}
use Rattle.once_machine.proofs.Invariant.Kept.{releasing_holds}
use Rattle.once_machine.proofs.Shared.Asked.{one_flag}
use Rattle.once_machine.proofs.Place.FitsAfter.{at_door}
use Rattle.once_machine.proofs.Moment.Numbers.{freed_within, release_more, word_freed}
use Rattle.once_machine.proofs.Moment.Pages.{one_task, queue_of, set_here, set_other, zero_one}
use Rattle.once_machine.proofs.Moment.Step.{Moment, Stepped, moment, stands, stepped}
use Rattle.once_machine.proofs.Shared.Slot.{is_put_at}

-- a release clears the flag that stood, and the other does not stand
freed_is : (c : SharedState) (b v : Bool) (xs : List (Listing ℕ)) → c.quick ≡ b → c.head ≡ not c.quick
    → record (release_flags b v c) { listings = xs } ≡ record c { quick = false; head = false; ready = v; listings = xs }
freed_is c true v xs e h = let z : c.head ≡ false = h ∙ ap not e in λ i. record c { quick = false; head = z i; ready = v; listings = xs }
freed_is c false v xs e h = λ i. record c { quick = e i; head = false; ready = v; listings = xs }

module _ (limit n put : ℕ) (slot : Bool) (pages : List Page) (log : List Entry) (t : ℕ) (x : Task) (some : 0 < limit)
    (book : IsBook limit n put slot pages log) (pen : slice_get pages (suc (suc t)) ≡ Some (At x)) (head : Bool)
    (xs : List (Listing ℕ)) (queue : slice_get pages 1 ≡ Some (Queue head xs)) where
  -- what all tasks share, and the book of it
  abbrev c : SharedState
  c = book.0.shared

  -- what holds at the moment
  abbrev m : Moment limit n put slot pages log t x
  m = moment t some book pen

  -- the flag and the listings are those of the queue's page
  own_queue : (c.head ≡ head) × (c.listings ≡ xs)
  own_queue = queue_of c.head head c.listings xs (sym book.1.queue_is ∙ queue)

  -- a step by which the queue's page changes
  queue_set : (word : ℕ) (p : Place ℕ ℕ) (g : Bool) (c' : SharedState) (did : List Entry) (next : Next ℕ ℕ) (h : Bool) (ys : List (Listing ℕ)) → x.step ≡ UnderWay p
      → place_step false limit c t x.waker x.kept RanPending g p ≡ outcome_of c' t x.kept did next
      → word < 2 ^ 64 → flags_of word ≡ word_of c' → c'.queues ≡ c.queues → c'.door ≡ c.door → c'.head ≡ h → c'.listings ≡ ys
      → Stepped limit word put (is_put_at p || slot) (slice_set pages 1 (Queue h ys)) log t x did next
  queue_set word p g c' did next h ys at is within word_is q d b l =
      stepped t some book pen word put (slice_set pages 1 (Queue h ys)) RanPending g p c' x.kept did next tt at is within word_is
      (rw q book.1.put_is)
      (set_other pages 1 0 (Queue h ys) (λ e. zero_one (sym e)) ∙ book.1.door_is ∙ ap (λ k. Some (Door k c.door)) (sym q) ∙ ap (λ o. Some (Door c'.queues o)) (sym d))
      (set_here pages 1 (Queue head xs) (Queue h ys) queue ∙ ap (λ v. Some (Queue v ys)) (sym b) ∙ ap (λ zs. Some (Queue c'.head zs)) (sym l))
      (λ u. set_other pages 1 (suc (suc u)) (Queue h ys) (one_task u))

  -- what is seen in the queue q that stands at the door
  seen_is : (q : ℕ) → c.door ≡ Some q → seen_at q c ≡ Some (sees (flags_of n) head)
  seen_is q d =
      ap (λ b. seen_by b (sees_by c.ready (c.quick || c.head))) (at_door q c.door d)
      ∙ ap (λ (f : Flags). seen_by true (sees_by f.ready (f.quick || c.head))) (sym book.1.word_is)
      ∙ ap (λ b. Some (sees (flags_of n) b)) own_queue.0

  -- AtLook: the load
  pub look_load : (q : ℕ) (k : Option ℕ) (granted : Bool) → x.step ≡ UnderWay (AtLook q k)
      → let a = look_answer (Some (sees (flags_of n) head)) (is_waker x.waker (own_listing k xs)) in
      Stepped limit n put slot (slice_set pages 1 (Queue (head_after a head) (looked_list a k xs))) log t x
      (claim_entries (is_claim a) t) (after_look a (cond granted (Some x.waker) None) q k)
  look_load q k granted at =
      let d = stands t some book pen (AtLook q k) at in
      let a : SectionAnswer ℕ = look_answer (Some (sees (flags_of n) head)) (is_waker x.waker (own_listing k xs)) in
      queue_set n (AtLook q k) granted (look_shared a c k) (claim_entries (is_claim a) t) (after_look a (cond granted (Some x.waker) None) q k) (head_after a head) (looked_list a k xs) at
      (ap (λ s. look_step s (is_waker x.waker (own_listing k c.listings)) granted c t x.waker x.kept q k) (seen_is q d.1)
      ∙ ap (λ ys. look_step (Some (sees (flags_of n) head)) (is_waker x.waker (own_listing k ys)) granted c t x.waker x.kept q k) own_queue.1
      ∙ ap (outcome_of (look_shared a c k) t x.kept (claim_entries (is_claim a) t)) (look_same a (cond granted (Some x.waker) None) q k))
      book.1.within book.1.word_is refl refl (ap (head_after a) own_queue.0) (ap (looked_list a k) own_queue.1)

  -- AtList: the load
  pub list_load : (q : ℕ) (k : Option ℕ) (v : ℕ) (granted : Bool) → x.step ≡ UnderWay (AtList q k v)
      → let a = list_answer (Some (sees (flags_of n) head)) (is_some (kept_ticket k xs) || granted) in
      Stepped limit n put slot (slice_set pages 1 (Queue (head_after a head) (listed_list a k v xs))) log t x
      (claim_entries (is_claim a) t) (after_list a q (listed_ticket a k xs))
  list_load q k v granted at =
      let d = stands t some book pen (AtList q k v) at in
      let a : SectionAnswer ℕ = list_answer (Some (sees (flags_of n) head)) (is_some (kept_ticket k xs) || granted) in
      queue_set n (AtList q k v) granted (list_shared a c k v) (claim_entries (is_claim a) t) (after_list a q (listed_ticket a k xs)) (head_after a head) (listed_list a k v xs) at
      (ap (λ s. list_step s (is_some (kept_ticket k c.listings) || granted) c t v x.kept q k) (seen_is q d.1)
      ∙ ap (λ ys. list_step (Some (sees (flags_of n) head)) (is_some (kept_ticket k ys) || granted) c t v x.kept q k) own_queue.1
      ∙ ap (λ ys. outcome_of (list_shared a c k v) t x.kept (claim_entries (is_claim a) t) (after_list a q (listed_ticket a k ys))) own_queue.1)
      book.1.within book.1.word_is refl refl (ap (head_after a) own_queue.0) (ap (listed_list a k v) own_queue.1)

  -- AtRelease: the addition
  pub release_add : (q : ℕ) (e : Ending) → x.step ≡ UnderWay (AtRelease q e)
      → Stepped limit ((n + release_more (is_value e) head) % 2 ^ 64) put slot (slice_set pages 1 (Queue false (release_list (is_value e) xs))) log t x
      (release_entry x.kept t (release_wakers (is_value e) xs) ∷ []) (next_at (AtCountOut e))
  release_add q e at =
      let v : Bool = is_value e in
      let a = stands t some book pen (AtRelease q e) at in
      let r : c.ready ≡ false = m.fits.shared.ready_is ∙ holder_unset t (cell Once m.w.history) (releasing_holds Once t c m.w.history e a.0) in
      let g : c.head ≡ not c.quick = one_flag c a.1 in
      let quick : (flags_of n).quick ≡ c.quick = ap (λ (f : Flags). f.quick) book.1.word_is in
      let unset : (flags_of n).ready ≡ false = ap (λ (f : Flags). f.ready) book.1.word_is ∙ r in
      let flag : head ≡ not (flags_of n).quick = sym own_queue.0 ∙ g ∙ ap not (sym quick) in
      queue_set ((n + release_more v head) % 2 ^ 64) (AtRelease q e) false (record c { quick = false; head = false; ready = v; listings = release_list v xs })
      (release_entry x.kept t (release_wakers v xs) ∷ []) (next_at (AtCountOut e)) false (release_list v xs) at
      (ap (λ b. release_step b c t x.kept e) (at_door q c.door a.2)
      ∙ ap (λ ys. outcome_of (record (release_flags c.quick v c) { listings = release_list v ys }) t x.kept (release_entry x.kept t (release_wakers v ys) ∷ []) (next_at (AtCountOut e))) own_queue.1
      ∙ ap (λ s. outcome_of s t x.kept (release_entry x.kept t (release_wakers v xs) ∷ []) (next_at (AtCountOut e))) (freed_is c c.quick v (release_list v xs) refl g))
      (freed_within (n + release_more v head)) (word_freed n v head book.1.within unset flag ∙ ap (λ (f : Flags). record f { quick = false; ready = v }) book.1.word_is) refl refl refl refl

  -- AtLeave: the load
  pub leave_load : (q k : ℕ) (e : Ending) → x.step ≡ UnderWay (AtLeave q k e)
      → let passing = passes_turn (is_free (sees (flags_of n) head)) k xs in
      Stepped limit n put slot (slice_set pages 1 (Queue head (left_list passing k xs))) log t x
      (pass_entries t (option_to_list (next_waker passing k xs))) (next_at (AtCountOut e))
  leave_load q k e at =
      let d = stands t some book pen (AtLeave q k e) at in
      let passing : Bool = passes_turn (is_free (sees (flags_of n) head)) k xs in
      let same : is_passing c k ≡ passing = ap (λ f. passes_turn (is_free (sees f c.head)) k c.listings) (sym book.1.word_is)
      ∙ ap (λ b. passes_turn (is_free (sees (flags_of n) b)) k c.listings) own_queue.0 ∙ ap (passes_turn (is_free (sees (flags_of n) head)) k) own_queue.1 in
      queue_set n (AtLeave q k e) false (record c { listings = left_list passing k xs })
      (pass_entries t (option_to_list (next_waker passing k xs))) (next_at (AtCountOut e)) head (left_list passing k xs) at
      (ap (λ b. leave_step b c t x.kept k e) (at_door q c.door d.1)
      ∙ ap (λ b. outcome_of (record c { listings = left_list b k c.listings }) t x.kept (pass_entries t (option_to_list (next_waker b k c.listings))) (next_at (AtCountOut e))) same
      ∙ ap (λ ys. outcome_of (record c { listings = left_list passing k ys }) t x.kept (pass_entries t (option_to_list (next_waker passing k ys))) (next_at (AtCountOut e))) own_queue.1)
      book.1.within book.1.word_is refl refl own_queue.0 refl
