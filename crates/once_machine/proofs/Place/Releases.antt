-- The releases, and the places of a call that ends.
use Rattle.std.proofs.Common.{◌≡◌, ◌≢◌, ℕ, Bool, true, false, ⊎_elim, inl, inr, List, [], ◌∷◌, Option, Some, None, refl, sym, ap, ◌∙◌, subst, arith}
use Rattle.std.specs.Option.{option_to_list}
use Rattle.std.proofs.lemmas.Bool.{false≢true}
use Rattle.once_machine.specs.Record.{Answer, Entry, Fill, Free, Kind}
use Rattle.once_machine.specs.Cell.{cell}
use Rattle.once_machine.specs.Tasks.{Waiting, last_call, status}
use Rattle.once_machine.specs.declared.waiters.Listing.{Listing}
use Rattle.once_machine.specs.Listings.{all_out, call_first, first_waker}
use Rattle.once_machine.specs.Run.{IsLegal}
use Rattle.once_machine.specs.Machine.{AtAddOne, AtCountOut, AtDoorTake, AtFast, AtRelease, EndDropped, EndError, EndValue, Ending, Finished}
use Rattle.once_machine.specs.Machine.{SharedState, UnderWay, out_shared, take_shared, end_entry, release_wakers, is_at_door, is_value, release_list}
use Rattle.once_machine.specs.Machine.{release_entry, release_flags, word_of}
use Rattle.once_machine.specs.Table.{after_count_out}
use Rattle.once_machine.specs.Machine.{outcome_of}
use Rattle.once_machine.proofs.Steps.{fast_step, release_step}
use Rattle.once_machine.proofs.Listing.Members.{eqb_self}
use Rattle.once_machine.proofs.History.Others.{keeps_both, legal_keeps}
use Rattle.once_machine.proofs.History.Cells.{empty_not_set, holder_unset, same_value, set_unheld}
use Rattle.once_machine.proofs.History.Waiters.{CalledAt, QueueFits, calls_none, calls_one, entry_fits, hands_none, hands_out, nobody_called, quiet, waited}
use Rattle.once_machine.proofs.Listing.Listings.{asks_call, none_found}
use Rattle.once_machine.proofs.Listing.CalledFirst.{call_back, call_called, call_none}
use Rattle.once_machine.proofs.Listing.AllOut.{all_times}
use Rattle.once_machine.proofs.Invariant.Facts.{AtPlace, Owes, Releasing, kept_of}
use Rattle.once_machine.proofs.Invariant.Listed.{none_not_some}
use Rattle.once_machine.proofs.Invariant.Turns.{ListMoves, lists_stay}
use Rattle.once_machine.proofs.Invariant.Calls.{call_kept, ready_lists}
use Rattle.once_machine.proofs.Invariant.AroundLists.{AroundList, due_asks}
use Rattle.once_machine.proofs.Invariant.Fits.{SharedFits}
use Rattle.once_machine.proofs.Invariant.Kept.{releasing_holds}
use Rattle.once_machine.proofs.Invariant.Around.{Around}
use Rattle.once_machine.proofs.Place.Builders.{Before, Goes, ends_so, moves_on, of_other, polls_not_waits, same_shared, stays}
use Rattle.once_machine.proofs.Place.FitsAfter.{at_door, count_fits, nobody, release_fits, take_fits}
use Rattle.once_machine.proofs.Place.Holds.{holder_shared}
use Rattle.once_machine.proofs.Place.Frees.{Cleared, IsRelease, cleared, exact, exact_out, fill_legal, fill_releases, filled_owes, fills, free_legal}
use Rattle.once_machine.proofs.Place.Frees.{free_releases, freed_owes, frees, inexact, releasing_awake}
use Rattle.once_machine.specs.Word.{is_quick_bit, is_ready_bit}
use Rattle.once_machine.proofs.Place.Outcomes.{ends}

module _ {K : Kind} {limit t w : ℕ} {k : Answer} {c : SharedState} {h : List Entry} (before : Before K limit t w k c h) where
  -- a fast release with a value
  fast_fills : c.count ≡ 0 → Around K t false false c h → AtPlace K limit t c h (AtFast EndValue)
      → Goes K limit t w (AtFast EndValue) c h (fast_step true true c t k EndValue)
  fast_fills z ar a =
      let v : ℕ = a.0.0 in
      let e : Entry = Fill t v [] in
      let c' : SharedState = record c { quick = false; ready = true } in
      let legal : IsLegal K limit e h = fill_legal K limit t h c [] a.0 (hands_none K h (ar.none_waits z)) in
      let P : Entry → Type 0 = λ x. Goes K limit t w (AtFast EndValue) c h (record { shared = c'; step = UnderWay (AtDoorTake EndValue); kept = k; entries = x ∷ [] }) in
      subst P (sym (fills K t h c k [] before.kept_is a.0)) (record {
        run = (legal, before.run);
        shared = release_fits t before.shared a.0.1.holds_is refl refl refl a.1.head_is (λ x i. a.0.2 ∙ same_value v x i) refl (λ l. absurd (omega arith)) refl refl;
        queue = quiet before.queue refl refl (λ _. refl) (λ u is. polls_not_waits K t u h is a.0.1.status_is) (λ x. absurd (empty_not_set v (sym x)));
        own = (filled_owes K t h c [] a.0, refl);
        waker_is = rw (eqb_self t) before.waker_is;
        kept_is = rw (eqb_self t) before.kept_is;
        others = λ u n. legal_keeps K u e limit h (of_other t u n) legal refl;
        keeps = λ u n b i. holder_shared before.shared a.0.1.holds_is refl u n b;
        count = refl;
        made = refl;
        takes = λ _. z;
        enters = λ e. absurd (false≢true e);
        listings = ready_lists t None c c' (e ∷ h) refl;
        moments = λ a s. (s, a);
      })

  -- a fast release without a value, which ends the call
  fast_frees : (e : Ending) → is_value e ≡ false → c.count ≡ 0 → Around K t false false c h → AtPlace K limit t c h (AtFast e)
      → Goes K limit t w (AtFast e) c h (fast_step true false c t k e)
  fast_frees e nv z ar a =
      let c' : SharedState = record c { quick = false } in
      let h1 : List Entry = Free t [] ∷ h in
      let hold = releasing_holds K t c h e a.0 in
      let legal : IsLegal K limit (Free t []) h = free_legal K limit t h c [] e nv a.0 (calls_none K h (ar.none_waits z)) in
      let none : (u : ℕ) → status K u h1 ≢ Waiting = λ u s. ar.none_waits z u (waited K (Free t []) h (λ u is. releasing_awake K t u h c e a.0 is) u s) in
      let owes : Owes K t h1 e = freed_owes K t h c [] e nv a.0 in
      let shared1 : SharedFits K limit c' h1 = release_fits t before.shared hold
      (before.shared.ready_is ∙ holder_unset t (cell K h) hold) refl refl a.1.head_is
      (λ x i. absurd (empty_not_set x i)) refl (λ l. absurd (omega arith)) refl refl in
      let queue1 : QueueFits K c.listings h1 = entry_fits before.queue refl (λ w. omega arith) (nobody_called K c.listings h1 none) in
      let before1 : Before K limit t w k c' h1 =
      record { run = (legal, before.run); shared = shared1; queue = queue1; waker_is = rw (eqb_self t) before.waker_is; kept_is = rw (eqb_self t) before.kept_is } in
      let m = ends_so before1 (AtFast e) c' e owes shared1 queue1
      (λ u n b i. same_shared refl refl refl refl refl (λ x. x)) (omega arith)
      (lists_stay refl (λ r. r) (inl refl)) in
      let P : Entry → Type 0 = λ x. Goes K limit t w (AtFast e) c h (record { shared = c'; step = Finished; kept = k; entries = end_entry e t c.value k ∷ x ∷ [] }) in
      subst P (sym (frees K t h c k [] e nv before.kept_is a.0)) (record {
        run = m.run;
        shared = m.shared;
        queue = m.queue;
        own = m.own;
        waker_is = m.waker_is;
        kept_is = m.kept_is;
        others = λ u n. keeps_both K u h h1 (end_entry e t c.value k ∷ h1) (legal_keeps K u (Free t []) limit h (of_other t u n) legal refl) (m.others u n);
        keeps = λ u n b i. holder_shared before.shared hold refl u n b;
        count = refl;
        made = m.made;
        takes = λ e. absurd (false≢true e);
        enters = λ e. absurd (false≢true e);
        listings = lists_stay refl (λ r. r) (inl refl);
        moments = λ b s. (s, ((λ _ u s. absurd (none u s)), b));
      })

  -- a fast release, by whether the word is exactly the quick bit
  pub fast_goes : (x : Bool) (e : Ending) → is_quick_bit (word_of c) ≡ x → Around K t false false c h
      → AtPlace K limit t c h (AtFast e) → Goes K limit t w (AtFast e) c h (fast_step x (is_value e) c t k e)
  fast_goes true EndValue x ar a = fast_fills (exact c x) ar a
  fast_goes true EndError x ar a = fast_frees EndError refl (exact c x) ar a
  fast_goes true EndDropped x ar a = fast_frees EndDropped refl (exact c x) ar a
  fast_goes true _ x ar a = absurd a.0
  fast_goes false e x ar a =
      let unset = before.shared.ready_is ∙ holder_unset t (cell K h) (releasing_holds K t c h e a.0) in
      stays before (AtFast e) (AtAddOne e) (a.0, a.1, a.2, before.shared.stands unset (inexact c unset a.1.quick_is x)) refl refl (λ e. absurd (false≢true e)) (inl refl)

  -- a release under the lock of the queue, which hands X out and leaves ys
  release_moves : (q : ℕ) (e : Ending) {x : Entry} {c' : SharedState} {X : List ℕ} {ys : List (Listing ℕ)}
      → AtPlace K limit t c h (AtRelease q e) → Cleared c c' (is_value e) ys → IsLegal K limit x h
      → Owes K t (x ∷ h) e
      → SharedFits K limit c' (x ∷ h) → IsRelease t X x → release_entry k t X ≡ x → QueueFits K ys (x ∷ h) → ListMoves t None None c c' (x ∷ h)
      → Goes K limit t w (AtRelease q e) c h (record { shared = c'; step = UnderWay (AtCountOut e); kept = k; entries = release_entry k t X ∷ [] })
  release_moves q e {x} {c'} a cl legal owes shared' l same queue' lists =
      let P : Entry → Type 0 = λ y. Goes K limit t w (AtRelease q e) c h (record { shared = c'; step = UnderWay (AtCountOut e); kept = k; entries = y ∷ [] }) in
      subst P (sym same) (record {
        run = (legal, before.run);
        shared = shared';
        queue = rw cl.listings_is queue';
        own = owes;
        waker_is = rw (l.of t, eqb_self t) (l.waker_is (cell K h) (status K t h) (last_call K t h) ∙ before.waker_is);
        kept_is = rw (l.of t, eqb_self t) (before.kept_is ∙ sym (ap kept_of (l.ran_is (cell K h) (status K t h) (last_call K t h))));
        others = λ u n. legal_keeps K u x limit h (l.of u ∙ of_other t u n) legal l.owns;
        keeps = λ u n b i. holder_shared before.shared (releasing_holds K t c h e a.0) cl.door_is u n b;
        count = rw cl.count_is refl;
        made = l.made h;
        takes = λ e. absurd (false≢true e);
        enters = λ e. absurd (false≢true e);
        listings = lists;
        moments = λ a s. (s, a);
      })

  -- with the value all listings leave
  release_fills : (q : ℕ) (c' : SharedState) → Cleared c c' true [] → AroundList K t None c h → AtPlace K limit t c h (AtRelease q EndValue)
      → Goes K limit t w (AtRelease q EndValue) c h (record { shared = c'; step = UnderWay (AtCountOut EndValue); kept = k; entries = release_entry k t (all_out c.listings []) ∷ [] })
  release_fills q c' cl al a =
      let v : ℕ = a.0.0 in
      let X : List ℕ = all_out c.listings [] in
      let e : Entry = Fill t v X in
      let unset : c.ready ≡ false = before.shared.ready_is ∙ holder_unset t (cell K h) a.0.1.holds_is in
      release_moves q EndValue a cl (fill_legal K limit t h c X a.0 (hands_out K c.listings h before.queue (due_asks K t None c h unset al))) (filled_owes K t h c X a.0)
      (release_fits t before.shared a.0.1.holds_is cl.ready_is refl cl.quick_is cl.head_is
      (λ x i. cl.value_is ∙ a.0.2 ∙ same_value v x i) cl.count_is (λ l. (q, cl.door_is ∙ a.2)) cl.answers_is refl)
      (fill_releases t v X) (fills K t h c k X before.kept_is a.0)
      (entry_fits before.queue refl (λ n. let i = all_times n c.listings [] in omega arith) (λ x. absurd (empty_not_set v (sym x))))
      (ready_lists t None c c' (e ∷ h) cl.ready_is)

  -- each task that waits was woken, or the first is woken now
  free_called : (o : Option ℕ) (e : Ending) → first_waker c.listings ≡ o → c.ready ≡ false → AroundList K t None c h
      → Releasing K t h c e → CalledAt K (call_first c.listings) (Free t (option_to_list (first_waker c.listings)) ∷ h)
  free_called (Some v) e first r al a = λ _ u s. call_called v c.listings first
  free_called None e first r al a = λ _ u s.
      let l = al.listed u (waited K (Free t (option_to_list (first_waker c.listings))) h (λ u is. releasing_awake K t u h c e a is) u s) in
      (l.0, rw (call_none c.listings first) (⊎_elim (λ f. absurd (none_found l.0 (last_call K u h).listed c.listings first f)) (λ f. f.0) (l.3 r)))

  -- without it the first listing is woken that was not yet
  release_frees : (q : ℕ) (e : Ending) (c' : SharedState) → is_value e ≡ false
      → Cleared c c' (is_value e) (call_first c.listings) → AroundList K t None c h
      → AtPlace K limit t c h (AtRelease q e)
      → Goes K limit t w (AtRelease q e) c h (record { shared = c'; step = UnderWay (AtCountOut e); kept = k; entries = release_entry k t (option_to_list (first_waker c.listings)) ∷ [] })
  release_frees q e c' nv cl al a =
      let X : List ℕ = option_to_list (first_waker c.listings) in
      let unset : c.ready ≡ false = before.shared.ready_is ∙ holder_unset t (cell K h) (releasing_holds K t c h e a.0) in
      release_moves q e a cl
      (free_legal K limit t h c X e nv a.0 (calls_one K c.listings h before.queue (due_asks K t None c h unset al)))
      (freed_owes K t h c X e nv a.0)
      (release_fits t before.shared (releasing_holds K t c h e a.0)
      (cl.ready_is ∙ nv) refl cl.quick_is cl.head_is (λ x i. absurd (empty_not_set x i)) cl.count_is
      (λ l. (q, cl.door_is ∙ a.2)) cl.answers_is refl)
      (free_releases t X) (frees K t h c k X e nv before.kept_is a.0)
      (entry_fits before.queue refl (λ n. let i = asks_call n c.listings in omega arith) (free_called (first_waker c.listings) e refl unset al a.0))
      (record {
        up = λ r. absurd (false≢true (sym unset ∙ r));
        lists = λ u n o d x r f. rw cl.listings_is (call_kept u n c.listings (Free t X) h (of_other t u d) refl f);
        fresh = λ n e. absurd (none_not_some n e);
        owner = λ r n o f. inr (none_not_some n, call_back n o c.listings (rw cl.listings_is at f));
      })

  -- by the ending
  release_by : (q : ℕ) (e : Ending) (c' : SharedState)
      → Cleared c c' (is_value e) (release_list (is_value e) c.listings) → AroundList K t None c h
      → AtPlace K limit t c h (AtRelease q e)
      → Goes K limit t w (AtRelease q e) c h (record { shared = c'; step = UnderWay (AtCountOut e); kept = k; entries = release_entry k t (release_wakers (is_value e) c.listings) ∷ [] })
  release_by q EndValue c' cl al a = release_fills q c' cl al a
  release_by q EndError c' cl al a = release_frees q EndError c' refl cl al a
  release_by q EndDropped c' cl al a = release_frees q EndDropped c' refl cl al a
  release_by q _ c' cl al a = absurd a.0

  -- the queue of a releaser is at the door
  pub release_goes : (door : Bool) (q : ℕ) (e : Ending) → is_at_door q c.door ≡ door → AroundList K t None c h
      → AtPlace K limit t c h (AtRelease q e) → Goes K limit t w (AtRelease q e) c h (release_step door c t k e)
  release_goes false q e d al a = absurd (false≢true (sym d ∙ at_door q c.door a.2))
  release_goes true q e d al a =
      release_by q e
      (record (release_flags c.quick (is_value e) c) { listings = release_list (is_value e) c.listings })
      (cleared c.quick c (is_value e) (release_list (is_value e) c.listings) refl a.1) al a

  -- a counting out
  pub out_goes : (x : Bool) (e : Ending) → is_ready_bit (word_of (out_shared c)) ≡ x → Around K t true false c h
      → AtPlace K limit t c h (AtCountOut e) → Goes K limit t w (AtCountOut e) c h (outcome_of (out_shared c) t k [] (after_count_out x e))
  out_goes true e x ar a =
      let l = ar.own_count refl in let y = exact_out c x in
      moves_on before (AtCountOut e) (out_shared c) (AtDoorTake e)
      (count_fits before.shared (let b = before.shared.within in omega arith)
      (λ n _. absurd (false≢true (sym n ∙ y.1)))) before.queue (a, y.1)
      (λ u n b i. same_shared refl refl refl refl refl (λ le. omega arith))
      (omega arith) (λ _. y.0) (λ e. absurd (false≢true e))
      (lists_stay refl (λ r. r) (inl refl))
  out_goes false e x ar a =
      let l = ar.own_count refl in
      ends_so before (AtCountOut e) (out_shared c) e a
      (count_fits before.shared (let b = before.shared.within in omega arith)
      (λ n p. before.shared.stands n (omega arith))) before.queue
      (λ u n b i. same_shared refl refl refl refl refl (λ le. omega arith))
      (omega arith) (lists_stay refl (λ r. r)
      (inl refl))

  -- the taking of the queue
  pub take_goes : (e : Ending) → Around K t false true c h → AtPlace K limit t c h (AtDoorTake e)
      → Goes K limit t w (AtDoorTake e) c h (ends (take_shared c) t k e)
  take_goes e ar a = ends_so before (AtDoorTake e) (take_shared c) e a.0 (take_fits K limit c h before.shared a.1) (nobody K c.listings h before.queue (ar.take_waits refl))
      (λ u n b i. record {
        ready = λ r. r;
        door = λ q d. inr (a.1, i refl);
        flags = inr
            (set_unheld u (cell K h) (sym before.shared.ready_is ∙ a.1));
        within = inl (λ x. x);
      }) (omega arith)
      (ready_lists t None c (take_shared c) (end_entry e t c.value k ∷ h) a.1)
