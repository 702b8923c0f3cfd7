-- The owner's calls: if no task is unfinished, they keep all that holds.
use Rattle.std.proofs.Common.{◌≡◌, ◌≢◌, ℕ, Bool, true, false, ◌==◌, ◌⊎◌, inl, inr, ⊎_elim, List, [], ◌∷◌, Option, Some, None, refl, sym, ap, ◌∙◌, arith}
use Rattle.std.proofs.lemmas.Bool.Decides.{nat_tests}
use Rattle.std.proofs.lemmas.Grind.{common_steps}
use Rattle.std.proofs.lemmas.Bool.{false≢true, eqb-true}
use Rattle.once_machine.specs.Numbers.{how_many}
use Rattle.once_machine.specs.Record.{Entry, Got, Kind, Own, OwnerCall, Write, has_call, made_in, replaces}
use Rattle.once_machine.specs.Cell.{Cell, Empty, answers_left, cell, got, cell_after_call, write_cell}
use Rattle.once_machine.specs.Tasks.{Waiting, status}
use Rattle.once_machine.specs.Listings.{find_listing}
use Rattle.once_machine.specs.Machine.{SharedState, Task, World, own_world_by, owner_got, owner_shared, write_shared, step_of}
use Rattle.once_machine.proofs.Listing.Members.{eqb_self}
use Rattle.once_machine.proofs.History.Others.{holds}
use Rattle.once_machine.proofs.History.Cells.{holder_of, is_held}
use Rattle.once_machine.proofs.History.Waiters.{QueueFits, quiet}
use Rattle.once_machine.proofs.Listing.Counting.{count_none}
use Rattle.once_machine.proofs.Invariant.Facts.{is_counted}
use Rattle.once_machine.proofs.Invariant.Fits.{Fits, SharedFits, StandsFor, is_alive}
use Rattle.once_machine.proofs.Place.Relisted.{no_listing}
use Rattle.once_machine.proofs.Input.Gone.{Over, done_gone, finished, none_alive, over, over_at}

-- a task that is not there or finished stands in the new history as it stood
stands_over : (K : Kind) (limit t : ℕ) (c c' : SharedState) (h : List Entry) (o : OwnerCall) (g : Got) (x : Option Task)
    → holds t (cell K (Own o g ∷ h)) ≡ false → StandsFor K limit t c h x → is_alive x ≡ false
    → StandsFor K limit t c' (Own o g ∷ h) x
stands_over K limit t c c' h o g None n a d = (record { status_is = a.0.status_is; holds_is = n }, a.1, a.2)
stands_over K limit t c c' h o g (Some x) n a d =
    let r = over_at K limit t c h x a d in
    record { waker_is = a.waker_is; kept_is = a.kept_is; step = rw (finished x.step d) (record { status_is = r.status_is; holds_is = n }) }

-- a task that is not alive is not counted
uncounted : (o : Option Task) → is_alive o ≡ false → is_counted (step_of o) ≡ false
uncounted None d = refl
uncounted (Some x) d = ap is_counted (finished x.step d)

-- a cell that no task holds is free
cell_free : (K : Kind) (h : List Entry) → ((t : ℕ) → holds t (cell K h) ≡ false) → (b : Bool) → is_held (cell K h) ≡ b → is_held (cell K h) ≡ false
cell_free K h n false e = e
cell_free K h n true e = let u = holder_of (cell K h) e in absurd (false≢true (sym (n u.0) ∙ ap (holds u.0) u.1 ∙ eqb_self u.0))

-- no call of the owner gives anybody the right
owned_holds : (t : ℕ) (o : OwnerCall) (c : Cell) → holds t c ≡ false → holds t (cell_after_call o c) ≡ false
owned_holds t o c n = grind (arith, nat_tests, common_steps)

-- the owner is given what the cell has
pub owner_is_got : (K : Kind) (limit : ℕ) (o : OwnerCall) (c : SharedState) (h : List Entry) → SharedFits K limit c h
    → owner_got o c ≡ got o (cell K h) (answers_left K h)
owner_is_got K limit o c h f = let value = f.value_is in grind (arith, nat_tests, common_steps, value)

-- what an owner's call owes
record Owned (K : Kind) (limit : ℕ) (c c' : SharedState) (o : OwnerCall) (g : Got) (h : List Entry) : Type 0 where
  shared : SharedFits K limit c' (Own o g ∷ h)
  queue : QueueFits K c'.listings (Own o g ∷ h)
  count : (c'.count ≡ 0) ⊎ (c'.count ≡ c.count)
  lists : c'.ready ≡ false → (n : ℕ) (x : Option ℕ) → find_listing n c'.listings ≡ Some x → (c.ready ≡ false) × (find_listing n c.listings ≡ Some x)

-- if the owner replaces the cell, the counts start anew, and nobody is listed
replaced : (K : Kind) (o : OwnerCall) (g : Got) (h : List Entry) → replaces o ≡ true → ((u : ℕ) → status K u h ≢ Waiting) → QueueFits K [] (Own o g ∷ h)
replaced K o g h r w = record { counts = λ k. rw r (omega arith); called = λ e u s. absurd (w u s) }

written_empty : (v : ℕ) (c : Cell) → write_cell v c ≡ Empty → c ≡ Empty
written_empty v c e = grind (arith, nat_tests, common_steps)

module _ {K : Kind} {limit : ℕ} {c : SharedState} {h : List Entry} (f : SharedFits K limit c h) (n : is_held (cell K h) ≡ false) where
  -- a written value fits, and a cell without a value stays as it is
  written_shared : (v : ℕ) (g : Got) (r : Bool) → c.ready ≡ r → SharedFits K limit (write_shared r v c) (Own (Write v) g ∷ h)
  written_shared v g r is =
      let value = f.value_is in
      let stands = f.stands in
      let head = f.head_door in
      record {
        ready_is = grind (arith, nat_tests, common_steps);
        held_is = grind (arith, nat_tests, common_steps);
        value_is = λ u e. grind (arith, nat_tests, common_steps, value);
        answers_is = grind (arith, nat_tests, common_steps);
        within = grind (arith, nat_tests, common_steps);
        stands = λ n l. grind (arith, nat_tests, common_steps, stands);
        head_door = λ e. grind (arith, nat_tests, common_steps, head);
      }

  -- a writing, by whether a value is set
  owned_write : (v : ℕ) (g : Got) (r : Bool) → c.ready ≡ r → QueueFits K c.listings (Own (Write v) g ∷ h)
      → Owned K limit c (write_shared r v c) (Write v) g h
  owned_write v g true r q = record { shared = written_shared v g true r; queue = q; count = inr refl; lists = λ z n x e. (z, e) }
  owned_write v g false r q = record { shared = written_shared v g false r; queue = q; count = inr refl; lists = λ z n x e. (z, e) }

  -- what each call owes
  owned_so : (o : OwnerCall) (g : Got) → QueueFits K c.listings h → ((u : ℕ) → status K u h ≢ Waiting) → Owned K limit c (owner_shared o c) o g h
  owned_so (Write v) g q w =
      owned_write v g c.ready refl
      (quiet q refl refl (λ _. refl) (λ u is. absurd (false≢true is)) (written_empty v (cell K h)))
  owned_so o g q w =
      let answers = f.answers_is in
      record {
        shared = record {
          ready_is = grind (arith, nat_tests, common_steps);
          held_is = grind (arith, nat_tests, common_steps);
          value_is = λ u e. grind (arith, nat_tests, common_steps);
          answers_is = grind (arith, nat_tests, common_steps);
          within = grind (arith, nat_tests, common_steps);
          stands = λ n l. grind (arith, nat_tests, common_steps);
          head_door = λ e. grind (arith, nat_tests, common_steps);
        };
        queue = replaced K o g h refl w;
        count = inl refl;
        lists = λ z n x e. absurd (no_listing x e);
      }

-- a task that is unmade or gone does not wait
over_awake : (K : Kind) (t : ℕ) (h : List Entry) → Over K t h → status K t h ≢ Waiting
over_awake K t h o w = ⊎_elim (λ e. let z : ⊥ = cc in z) (λ e. let z : ⊥ = cc in z) o.status_is

-- the count is 0 before and after
zero_is : (c c' n : ℕ) → c ≡ n → n ≡ 0 → (c' ≡ 0) ⊎ (c' ≡ c) → c' ≡ n
zero_is c c' n a b e = grind arith

-- a call that fits keeps all that holds
owner_fits : (K : Kind) (limit : ℕ) (w : World) (o : OwnerCall) → Fits K limit w → w.unfinished ≡ 0 → has_call K o ≡ true
    → Fits K limit (own_world_by true true w o)
owner_fits K limit w o f d has =
    let h : List Entry = w.history in
    let g : Got = owner_got o w.shared in
    let dead : (t : ℕ) → is_alive (w.tasks t) ≡ false = λ t. none_alive K limit t w f d in
    let all_over : (t : ℕ) → Over K t h = λ t. over K limit t w.shared h (w.tasks t) (f.tasks t) (dead t) in
    let n : is_held (cell K h) ≡ false = cell_free K h (λ t. let v = all_over t in v.holds_is) (is_held (cell K h)) refl in
    let s : Owned K limit w.shared (owner_shared o w.shared) o g h = owned_so f.shared n o g f.queue (λ u. over_awake K u h (all_over u)) in
    let zero_count = count_none (made_in h) (λ k. is_counted (step_of (w.tasks k))) (λ k. uncounted (w.tasks k) (dead k)) in
    record {
      run = ((done_gone K limit w f d, has, owner_is_got K limit o w.shared h f.shared), f.run);
      shared = s.shared;
      queue = s.queue;
      tasks = λ t. stands_over K limit t w.shared (owner_shared o w.shared) h o g (w.tasks t) (owned_holds t o (cell K h) (let v = all_over t in v.holds_is)) (f.tasks t) (dead t);
      count_is = zero_is w.shared.count (owner_shared o w.shared).count (how_many (λ k. is_counted (step_of (w.tasks k))) (made_in h)) f.count_is zero_count s.count;
      unfinished_is = f.unfinished_is;
      made_once = f.made_once;
      made_all = f.made_all;
      made_only = f.made_only;
      alone = f.alone;
      single = f.single;
      owned = λ r n x e. let l = s.lists r n x e in f.owned l.0 n x l.1;
      moments = ((λ e u k. absurd (over_awake K u h (all_over u) k)), f.moments);
    }

-- by whether the call fits
pub owned_fits : {K : Kind} {limit : ℕ} {w : World} → Fits K limit w → (o : OwnerCall) (d b : Bool) → (w.unfinished == 0) ≡ d
    → has_call K o ≡ b → Fits K limit (own_world_by d b w o)
owned_fits {K} {limit} {w} f o true true e has = owner_fits K limit w o f (eqb-true w.unfinished 0 e) has
owned_fits f o _ _ e has = f
