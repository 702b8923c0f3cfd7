-- A step of one task, by its outcome: what it makes of the book.
use Rattle.std.proofs.Common.{◌≡◌, ◌<◌, ◌^◌, ℕ, suc, Bool, true, false, List, [], ◌∷◌, ◌++◌, Some, None, reverse, slice_get, slice_set, refl, sym, ap, ◌∙◌, subst, arith}
use Rattle.std.specs.Prelude.{nat_lt, ◌||◌}
use Rattle.std.proofs.lemmas.List.{reverse-append, reverse-reverse}
use Rattle.once_machine.specs.Numbers.{bit}
use Rattle.once_machine.specs.Word.{flags_of}
use Rattle.once_machine.specs.Table.{Next}
use Rattle.once_machine.specs.Record.{Answer, Entry, Once, RanPending}
use Rattle.once_machine.specs.Book.{At, Door, IsBook, IsBookOf, IsUnnamed, Page, Queue, has_written, has_written_at, task_page}
use Rattle.once_machine.specs.Machine.{Outcome, Place, SharedState, Task, UnderWay, World, advance, first_world, go_world_by, in_call, outcome_of, place_step}
use Rattle.once_machine.specs.Machine.{progress_entries, put_task, step_at, step_of, word_of}
use Rattle.once_machine.proofs.Invariant.Facts.{AtPlace, AtStep}
use Rattle.once_machine.proofs.Invariant.Fits.{Fits}
use Rattle.once_machine.proofs.Input.Headline.{task_fits}
use Rattle.once_machine.proofs.Moment.Pages.{one_task, set_other, set_tasks, task_of, zero_task}
use Rattle.once_machine.proofs.Shared.Places.{StepKeeps}
use Rattle.once_machine.proofs.Shared.Reached.{fits_of, reached_go, unowned_of}
use Rattle.once_machine.proofs.Shared.Slot.{SlotKeeps, is_put_at, slot_kept, slot_opens}
use Rattle.once_machine.proofs.Shared.Worlds.{Unowned, place_step_keeps}

-- a new cell
pub opens : (limit : ℕ) → IsBook limit 0 0 false (Door 0 None ∷ Queue false [] ∷ []) []
opens limit = (
  first_world Once,
  record {
    reached = ([], tt, refl);
    within = omega arith;
    word_is = refl;
    put_is = refl;
    slot_is = slot_opens;
    door_is = refl;
    queue_is = refl;
    tasks_are = λ t. refl;
    log_is = refl;
  },
)

-- the entries of a step of t, the oldest first: what it did, and the end of the call, if the table of places tells one
abbrev pub told : ℕ → Answer → Next ℕ ℕ → List Entry → List Entry
told t k next did = reverse (progress_entries next.progress t 0 k ++ did)

-- the book once t made a step: t goes on as the table of places says, and the log grew by what that tells
abbrev pub Stepped : ℕ → ℕ → ℕ → Bool → List Page → List Entry → ℕ → Task → List Entry → Next ℕ ℕ → Type 0
Stepped limit word put slot pages log t x did next =
    IsBook limit word put slot (slice_set pages (suc (suc t)) (At (record x { step = next.step }))) (log ++ told t x.kept next did)

-- the log grows by entries, the newest of which stands first
pub grown : (h log es : List Entry) → h ≡ reverse log → es ++ h ≡ reverse (log ++ reverse es)
grown h log es e = ap (λ l. es ++ l) e ∙ sym (reverse-append log (reverse es) ∙ ap (λ l. l ++ reverse log) (reverse-reverse es))

-- a moment of the task t: the world, its book, what holds of it, and t in it
pub record Moment (limit word put : ℕ) (slot : Bool) (pages : List Page) (log : List Entry) (t : ℕ) (x : Task) : Type 0 where
  pub w : World
  pub is : IsBookOf limit w word put slot pages log
  pub fits : Fits Once limit w
  pub unowned : Unowned w
  pub found : w.tasks t ≡ Some x

module _ {limit n put : ℕ} {slot : Bool} {pages : List Page} {log : List Entry} (t : ℕ) {x : Task} (some : 0 < limit)
    (book : IsBook limit n put slot pages log) (pen : slice_get pages (suc (suc t)) ≡ Some (At x)) where
  -- the moment of t, whose page has the task x
  abbrev pub moment : Moment limit n put slot pages log t x
  moment = record {
    w = book.0;
    is = book.1;
    fits = fits_of limit some book.0 book.1.reached;
    unowned = unowned_of limit some book.0 book.1.reached;
    found = task_of x (book.0.tasks t) (sym (book.1.tasks_are t) ∙ pen);
  }

  -- what stands for t at its place
  pub stands : (p : Place ℕ ℕ) → x.step ≡ UnderWay p → AtPlace Once limit t book.0.shared book.0.history p
  stands p at = subst (λ s. AtStep Once limit t book.0.shared book.0.history s) at (task_fits Once limit t book.0 x moment.fits moment.found).step

  -- a step of t at the place p with this outcome, if the pages of the door and of the queue follow
  pub stepped : (word put' : ℕ) (pages' : List Page) (a : Answer) (g : Bool) (p : Place ℕ ℕ) (c' : SharedState) (k' : Answer) (did : List Entry) (next : Next ℕ ℕ)
      → IsUnnamed a → x.step ≡ UnderWay p → place_step false limit book.0.shared t x.waker x.kept a g p ≡ outcome_of c' t k' did next
      → word < 2 ^ 64 → flags_of word ≡ word_of c' → put' ≡ bit (nat_lt 0 c'.queues)
      → slice_get pages' 0 ≡ Some (Door c'.queues c'.door) → slice_get pages' 1 ≡ Some (Queue c'.head c'.listings)
      → ((u : ℕ) → slice_get pages' (suc (suc u)) ≡ slice_get pages (suc (suc u)))
      → IsBook limit word put' (is_put_at p || slot) (slice_set pages' (suc (suc t)) (At (record x { step = next.step; kept = k' }))) (log ++ told t k' next did)
  stepped word put' pages' a g p c' k' did next unnamed at is within word_is put_is door queue others =
      let m : Moment limit n put slot pages log t x = moment in
      let c : SharedState = m.w.shared in
      let o : Outcome = advance false limit c t x a g in
      let w' : World = go_world_by true false limit m.w t a g x in
      let y : Task = record x { step = next.step; kept = k' } in
      let oe : o ≡ outcome_of c' t k' did next = ap (step_at false limit c t x.waker x.kept a g) at ∙ is in
      let keeps : StepKeeps (is_put_at p) (has_written_at p) c o = place_step_keeps t a g unnamed m.fits m.unowned m.found at in
      let value : c'.value ≡ 0 = ap (λ (o : Outcome). o.shared.value) (sym oe) ∙ keeps.value in
      let es : List Entry = progress_entries next.progress t 0 k' ++ did in
      let entries : o.entries ≡ es = ap (λ (o : Outcome). o.entries) oe ∙ ap (λ v. progress_entries next.progress t v k' ++ did) value in
      let wrote : has_written (step_of (m.w.tasks t)) ≡ has_written_at p = ap (λ o. has_written (step_of o)) m.found ∙ ap has_written at in
      let tasks = set_tasks m.w.tasks pages' t y x m.found (λ u. others u ∙ m.is.tasks_are u) in (
        w',
        record {
          reached = reached_go limit m.w t x a g unnamed m.found (ap in_call at) m.is.reached;
          within = within;
          word_is = word_is ∙ ap (λ (o : Outcome). word_of o.shared) (sym oe);
          put_is = put_is ∙ ap (λ (o : Outcome). bit (nat_lt 0 o.shared.queues)) (sym oe);
          slot_is = slot_kept (is_put_at p) slot m.w w' t (record x { step = o.step; kept = o.kept }) refl
              (subst (λ b. SlotKeeps (is_put_at p) b o.step c o.shared) (sym wrote) keeps.slot) m.is.slot_is;
          door_is = set_other pages' (suc (suc t)) 0 (At y) (λ e. zero_task t (sym e)) ∙ door ∙ ap (λ (o : Outcome). Some (Door o.shared.queues o.shared.door)) (sym oe);
          queue_is = set_other pages' (suc (suc t)) 1 (At y) (λ e. one_task t (sym e)) ∙ queue ∙ ap (λ (o : Outcome). Some (Queue o.shared.head o.shared.listings)) (sym oe);
          tasks_are = subst
              (λ (o : Outcome). (u : ℕ)
              → slice_get (slice_set pages' (suc (suc t)) (At y)) (suc (suc u)) ≡ task_page (put_task t (record x { step = o.step; kept = o.kept }) m.w.tasks u))
              (sym oe) tasks;
          log_is = ap (λ l. l ++ m.w.history) entries ∙ grown m.w.history log es m.is.log_is;
        },
      )

  -- the same if only the page of t changes, and no value is put
  pub stepped_alone : (word : ℕ) (g : Bool) (p : Place ℕ ℕ) (c' : SharedState) (did : List Entry) (next : Next ℕ ℕ) → x.step ≡ UnderWay p
      → place_step false limit book.0.shared t x.waker x.kept RanPending g p ≡ outcome_of c' t x.kept did next
      → word < 2 ^ 64 → flags_of word ≡ word_of c' → put ≡ bit (nat_lt 0 c'.queues)
      → slice_get pages 0 ≡ Some (Door c'.queues c'.door) → slice_get pages 1 ≡ Some (Queue c'.head c'.listings)
      → Stepped limit word put (is_put_at p || slot) pages log t x did next
  stepped_alone word g p c' did next at is within word_is put_is door queue =
      stepped word put pages RanPending g p c' x.kept did next tt at is within word_is put_is door queue (λ u. refl)

  -- and nothing that all tasks share
  pub stepped_still : (g : Bool) {p : Place ℕ ℕ} (next : Next ℕ ℕ) → x.step ≡ UnderWay p
      → place_step false limit book.0.shared t x.waker x.kept RanPending g p ≡ outcome_of book.0.shared t x.kept [] next
      → Stepped limit n put (is_put_at p || slot) pages log t x [] next
  stepped_still g {p} next at is =
      stepped_alone n g p book.0.shared [] next at is book.1.within book.1.word_is book.1.put_is book.1.door_is book.1.queue_is
