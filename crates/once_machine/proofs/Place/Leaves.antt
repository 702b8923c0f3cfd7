-- The place at which a waiter leaves: its listing is taken out, and it passes its turn on if it had it.
use Rattle.std.proofs.Common.{◌≡◌, ◌≢◌, ◌≤◌, ◌+◌, ℕ, Bool, true, false, ⊎_elim, inr, List, [], ◌∷◌, Option, Some, None, cond, refl, sym, ap, ◌∙◌, subst, arith, ◌||◌}
use Rattle.std.proofs.lemmas.Bool.Decides.{nat_tests}
use Rattle.std.proofs.lemmas.Grind.{common_steps}
use Rattle.std.specs.Option.{option_to_list}
use Rattle.std.proofs.lemmas.Bool.{false≢true, cases_eq}
use Rattle.once_machine.specs.Numbers.{times_in}
use Rattle.once_machine.specs.Record.{Answer, Entry, Kind, Pass}
use Rattle.once_machine.specs.Cell.{Empty, cell, is_set}
use Rattle.once_machine.specs.Tasks.{Waiting, last_call, status}
use Rattle.once_machine.specs.declared.waiters.Listing.{Listing}
use Rattle.once_machine.specs.Word.{is_free, sees_by}
use Rattle.once_machine.specs.Listings.{call_first, find_listing, first_waker, left_list, next_waker, take_out, was_called}
use Rattle.once_machine.specs.Run.{IsLegal, MayPass}
use Rattle.once_machine.specs.Machine.{AtCountOut, AtLeave, Ending, SharedState, UnderWay, is_at_door, pass_entries, is_passing}
use Rattle.once_machine.proofs.Steps.{leave_step}
use Rattle.once_machine.proofs.Listing.Members.{eqb_self}
use Rattle.once_machine.proofs.History.Others.{legal_keeps}
use Rattle.once_machine.proofs.History.Cells.{empty_cell, is_held}
use Rattle.once_machine.proofs.Listing.Listings.{asks, asks_call, asks_take, find_take_other, none_found}
use Rattle.once_machine.proofs.Listing.CalledFirst.{call_back, call_called, call_none}
use Rattle.once_machine.proofs.History.Waiters.{CalledAt, entry_fits, list_fits, open_by}
use Rattle.once_machine.proofs.Invariant.Facts.{AtPlace, MayLeave, Owes}
use Rattle.once_machine.proofs.Invariant.Listed.{none_not_some, same_some}
use Rattle.once_machine.proofs.Invariant.Calls.{call_kept}
use Rattle.once_machine.proofs.Invariant.Around.{leaves_acts, no_wait}
use Rattle.once_machine.proofs.Invariant.AroundLists.{AroundList}
use Rattle.once_machine.proofs.Place.Builders.{Before, Goes, shared_at, moves_on, of_other, same_shared}
use Rattle.once_machine.proofs.Place.FitsAfter.{at_door, relisted_fits}
use Rattle.once_machine.proofs.Place.Relisted.{take_back, without_lists}
use Rattle.once_machine.proofs.Place.Outcomes.{goes_to}

-- a task that leaves owes an end
leaves_owes : (K : Kind) (t : ℕ) (h : List Entry) (e : Ending) → MayLeave K t h e → Owes K t h e
leaves_owes K t h e a = grind (arith, nat_tests, common_steps)

-- it may pass its turn on, and did not yet
leaves_may : (K : Kind) (t : ℕ) (h : List Entry) (e : Ending) → MayLeave K t h e
    → MayPass (status K t h) (last_call K t h).claimed (last_call K t h).ran × ((last_call K t h).passed ≡ false)
leaves_may K t h e a = grind (arith, nat_tests, common_steps)

-- and owes the end after it passed
passed_owes : (K : Kind) (t : ℕ) (h : List Entry) (X : List ℕ) (e : Ending) → (last_call K t h).began ≡ Waiting → MayLeave K t h e → Owes K t (Pass t X ∷ h) e
passed_owes K t h X e b a = grind (arith, nat_tests, common_steps)

-- in an empty cell a woken listing passes its turn on
passes_in : (c : SharedState) (n : ℕ) → c.ready ≡ false → (c.quick || c.head) ≡ false → find_listing n c.listings ≡ Some None → is_passing c n ≡ true
passes_in c n r q f = rw (f, r, q) refl

-- a test that passes only if the right is free
free_where : (ready taken called : Bool) → cond (is_free (sees_by ready taken)) called false ≡ true → (ready ≡ false) × (taken ≡ false)
free_where false false called e = (refl, refl)
free_where false true called e = absurd (false≢true e)
free_where true taken called e = absurd (false≢true e)

-- and only in an empty cell
passes_when : (c : SharedState) (n : ℕ) → is_passing c n ≡ true → (c.ready ≡ false) × ((c.quick || c.head) ≡ false)
passes_when c n e = free_where c.ready (c.quick || c.head) (was_called (find_listing n c.listings)) e

module _ {K : Kind} {limit t w : ℕ} {k : Answer} {c : SharedState} {h : List Entry} (before : Before K limit t w k c h) where
  -- a task that leaves and wakes nobody
  leaves_plain : (q n : ℕ) (e : Ending) → AtPlace K limit t c h (AtLeave q n e)
      → CalledAt K (take_out n c.listings) h
      → Goes K limit t w (AtLeave q n e) c h (goes_to (record c { listings = take_out n c.listings }) k (AtCountOut e))
  leaves_plain q n e a called =
      let c' : SharedState = record c { listings = take_out n c.listings } in
      moves_on before (AtLeave q n e) c' (AtCountOut e) (relisted_fits K limit c (take_out n c.listings) h before.shared)
      (list_fits K c.listings (take_out n c.listings) h before.queue (λ v. asks_take v n c.listings) called) (leaves_owes K t h e a.0)
      (λ u m b j. same_shared refl refl refl refl refl (λ x. x)) refl (λ e. absurd (false≢true e)) (λ e. absurd (false≢true e)) (without_lists t (Some n) c c' h refl (λ x. x))

  -- a task that leaves and wakes the first
  leaves_on : (q n v : ℕ) (e : Ending) → AtPlace K limit t c h (AtLeave q n e) → cell K h ≡ Empty → first_waker (take_out n c.listings) ≡ Some v
      → Goes K limit t w (AtLeave q n e) c h (record { shared = record c { listings = call_first (take_out n c.listings) }; step = UnderWay (AtCountOut e); kept = k; entries = Pass t (v ∷ []) ∷ [] })
  leaves_on q n v e a empty first =
      let xs : List (Listing ℕ) = take_out n c.listings in
      let c' : SharedState = record c { listings = call_first xs } in
      let one : option_to_list (first_waker xs) ≡ v ∷ [] = rw first refl in
      let less : (x : ℕ) → times_in x (v ∷ []) + asks x (call_first xs) ≤ asks x c.listings = λ x. let i : asks x
      (call_first xs) + times_in x (v ∷ []) ≡ asks x xs = rw one at
      (asks_call x xs) in let j = asks_take x n c.listings in omega arith in
      let may = leaves_may K t h e a.0 in
      let legal : IsLegal K limit (Pass t (v ∷ [])) h = (empty, may.0, may.1, (v, refl, open_by K v (v ∷ []) c.listings h before.queue (λ x. let i = less x in omega arith) (rw (eqb_self v) refl))) in
      record {
        run = (legal, before.run);
        shared = shared_at refl refl (relisted_fits K limit c (call_first xs) h before.shared);
        queue = entry_fits before.queue refl (λ x. let i = less x in omega arith) (λ _ u s. call_called v xs first);
        own = passed_owes K t h (v ∷ []) e a.2 a.0;
        waker_is = rw (eqb_self t) before.waker_is;
        kept_is = rw (eqb_self t) before.kept_is;
        others = λ u d. legal_keeps K u (Pass t (v ∷ [])) limit h (of_other t u d) legal refl;
        keeps = λ u d b j. same_shared refl refl refl refl refl (λ x. x);
        count = refl;
        made = refl;
        takes = λ e. absurd (false≢true e);
        enters = λ e. absurd (false≢true e);
        listings = record {
          up = λ r. r;
          lists = λ u m o d x r f. call_kept u m xs (Pass t (v ∷ [])) h (of_other t u d) (sym one) (find_take_other m n c.listings (λ s. x (ap (λ (i : ℕ). Some i) s)) ∙ f);
          fresh = λ m s. absurd (none_not_some m s);
          owner = λ r m o f. let b = call_back m o xs f in let j = take_back m n b.0 c.listings (cases_eq n m) b.1 in inr ((λ s. j.0 (same_some n m s)), (b.0, j.1));
        };
        moments = λ b s. (s, b);
      }

  -- each task that waits was woken, if no listing is left that was not
  others_called : (q n : ℕ) (e : Ending) → first_waker (take_out n c.listings) ≡ None → c.ready ≡ false
      → AroundList K t (Some n) c h → AtPlace K limit t c h (AtLeave q n e) → CalledAt K (take_out n c.listings) h
  others_called q n e first unset al a = λ _ u s.
      let l = al.listed u s in
      let d : t ≢ u = λ is. no_wait (leaves_acts K t h e a.0) (ap (λ v. status K v h) is ∙ s) in
      let m : n ≢ l.0 = λ x. l.1 d (ap (λ (v : ℕ). Some v) x) in
      let same = find_take_other l.0 n c.listings m in
      (l.0, ⊎_elim (λ f. absurd (none_found l.0 (last_call K u h).listed (take_out n c.listings) first (same ∙ f))) (λ f. same ∙ f.0) (l.3 unset))

  -- what a step at this place leaves, by the waker that is woken and the list that is left
  abbrev Left : ℕ → ℕ → Ending → Option ℕ → List (Listing ℕ) → Type 0
  Left q n e o xs = Goes K limit t w (AtLeave q n e) c h (record { shared = record c { listings = xs }; step = UnderWay (AtCountOut e); kept = k; entries = pass_entries t (option_to_list o) })

  -- the turn goes to the first that was not woken
  pass_goes : (o : Option ℕ) (q n : ℕ) (e : Ending) → first_waker (take_out n c.listings) ≡ o → is_passing c n ≡ true
      → AroundList K t (Some n) c h → AtPlace K limit t c h (AtLeave q n e)
      → Left q n e o (call_first (take_out n c.listings))
  pass_goes (Some v) q n e first on al a = let p = passes_when c n on in leaves_on q n v e a (empty_cell (cell K h) (sym before.shared.ready_is ∙ p.0) (before.shared.held_is ∙ p.1)) first
  pass_goes None q n e first on al a =
      subst (λ xs. Left q n e None xs) (sym (call_none (take_out n c.listings) first)) (leaves_plain q n e a (others_called q n e first (passes_when c n on).0 al a))

  -- in an empty cell another listing was woken, if this one has no turn
  still_called : (n : ℕ) → is_passing c n ≡ false → CalledAt K (take_out n c.listings) h
  still_called n on = λ empty u s.
      let m = before.queue.called empty u s in
      let other : n ≢ m.0 = λ x. false≢true (sym on ∙ passes_in c n (before.shared.ready_is ∙ ap is_set empty)
      (sym before.shared.held_is ∙ ap is_held empty) (subst (λ v. find_listing v c.listings ≡ Some None) (sym x) m.1)) in
      (m.0, find_take_other m.0 n c.listings other ∙ m.1)

  -- by whether it has its turn
  leave_by_turn : (turn : Bool) (q n : ℕ) (e : Ending) → is_passing c n ≡ turn → AroundList K t (Some n) c h
      → AtPlace K limit t c h (AtLeave q n e)
      → Left q n e (next_waker turn n c.listings) (left_list turn n c.listings)
  leave_by_turn true q n e on al a = pass_goes (first_waker (take_out n c.listings)) q n e refl on al a
  leave_by_turn false q n e on al a = leaves_plain q n e a (still_called n on)

  -- a waiter leaves
  pub leave_goes : (door : Bool) (q n : ℕ) (e : Ending) → is_at_door q c.door ≡ door → AroundList K t (Some n) c h
      → AtPlace K limit t c h (AtLeave q n e) → Goes K limit t w (AtLeave q n e) c h (leave_step door c t k n e)
  leave_goes false q n e d al a = absurd (false≢true (sym d ∙ at_door q c.door a.1))
  leave_goes true q n e d al a = leave_by_turn (is_passing c n) q n e refl al a
