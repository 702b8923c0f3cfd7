-- The places of a holder: it polls the init, and puts the value.
use Rattle.std.proofs.Common.{◌≡◌, ◌≢◌, ℕ, suc, Bool, true, false, cond, ◌==◌, inl, inr, List, [], ◌∷◌, Option, Some, None, refl, sym, ap, ◌∙◌, arith}
use Rattle.std.proofs.lemmas.Bool.Decides.{nat_tests}
use Rattle.std.proofs.lemmas.Grind.{common_steps}
use Rattle.std.proofs.lemmas.Bool.{false≢true}
use Rattle.once_machine.specs.Record.{Answer, End, Entry, Kind, Once, OnceWith, Pending, Ran, RanError, RanPending, RanValue, is_lazy}
use Rattle.once_machine.specs.Cell.{Cell, Held, IsNext, answers_left, cell, next_answer}
use Rattle.once_machine.specs.Tasks.{Holding, Polling, Status, Waiting, last_call, status, status_after}
use Rattle.once_machine.specs.Wakers.{opens}
use Rattle.once_machine.specs.Run.{IsLegal}
use Rattle.once_machine.specs.Machine.{AtAddOne, AtDoorAgain, AtPut, AtRelease, AtRun, EndError, EndValue, Ending, SharedState, Place, UnderWay}
use Rattle.once_machine.specs.Machine.{release_place, init_answer, put_value, run_shared}
use Rattle.once_machine.specs.Table.{after_door_again}
use Rattle.once_machine.specs.Machine.{outcome_of}
use Rattle.once_machine.proofs.Steps.{run_step}
use Rattle.once_machine.proofs.Listing.Members.{eqb_self}
use Rattle.once_machine.proofs.History.Others.{holds, keeps_both, legal_keeps}
use Rattle.once_machine.proofs.History.Cells.{held_by, held_not_empty, holder_unset, no_other, none_some}
use Rattle.once_machine.proofs.History.Waiters.{quiet}
use Rattle.once_machine.proofs.Invariant.Facts.{AtPlace, HoldsBy, InPoll, InStatus, Releasing, is_counted_at, is_inside_at, is_take_at, kept_of, ticket_at}
use Rattle.once_machine.proofs.Invariant.Turns.{lists_stay}
use Rattle.once_machine.proofs.Invariant.Fits.{SharedFits}
use Rattle.once_machine.proofs.Invariant.Kept.{SharedKeeps, releasing_holds}
use Rattle.once_machine.proofs.Place.Builders.{Before, Goes, free_shared, shared_at, moves_on, of_other, polls_not_waits, same_shared, stays}
use Rattle.once_machine.proofs.Place.FitsAfter.{count_fits, ran_fits, value_fits}
use Rattle.once_machine.proofs.Place.Outcomes.{goes_to}

-- a test between false and false
cond_same : (b : Bool) → cond b false false ≡ false
cond_same b = grind arith

-- what a release owes goes by the value alone
releasing_same : (K : Kind) (t : ℕ) (h : List Entry) (c c' : SharedState) (e : Ending) → c'.value ≡ c.value → Releasing K t h c e → Releasing K t h c' e
releasing_same K t h c c' e s r = grind (arith, nat_tests, common_steps)

-- what the step of a holder leaves for the others
pub holder_shared : {K : Kind} {limit t : ℕ} {c c' : SharedState} {h : List Entry} → SharedFits K limit c h
    → holds t (cell K h) ≡ true → c'.door ≡ c.door → (u : ℕ) → t ≢ u → (b : Bool) → SharedKeeps K limit c c' u h b
holder_shared {K = K} {t = t} {h = h} f hold d u n b = free_shared (λ e. absurd (false≢true (sym (f.ready_is ∙ holder_unset t (cell K h) hold) ∙ e))) d (no_other t u (cell K h) hold n)

-- the pending end of a holder opens no waker
opens_none : (K : Kind) (t w : ℕ) (h : List Entry) → cell K h ≡ Held t → opens K w (End t Pending) h ≡ false
opens_none K t w h c = rw (c, eqb_self t) (cond_same ((last_call K t h).waker == w))

-- it leaves its task holding
pending_status_own : (t : ℕ) (c : Cell) (s : Status) → c ≡ Held t → status_after (End t Pending) c s ≡ Holding
pending_status_own t c s e = rw (e, eqb_self t) refl

-- which does not wait
holding_not_waits : (s : Status) → s ≡ Holding → s ≢ Waiting
holding_not_waits s a b = cc

-- a lazy init answers what is next
pub next_given : (K : Kind) (l k : List (Option ℕ)) (a : Answer) → l ≡ k → IsNext K (init_answer (is_lazy K) l a) k
next_given Once l k a e = tt
next_given (OnceWith v) l k a e = tt
next_given _ l k a e = ap next_answer e

-- a poll in which the init answered
ran_in : (K : Kind) (t : ℕ) (h : List Entry) (a : Answer) → InPoll K t h None true → InPoll K t (Ran t a ∷ h) (Some a) true
ran_in K t h a i = record { status_is = rw (eqb_self t) i.status_is; ran_is = rw (eqb_self t) refl; holds_is = i.holds_is; unpassed = rw (eqb_self t) i.unpassed }

-- a poll in which it is pending
pending_in : (K : Kind) (t : ℕ) (h : List Entry) → InPoll K t h None true → InStatus K t (End t Pending ∷ Ran t RanPending ∷ h) Holding true
pending_in K t h i = let held = held_by t (cell K h) i.holds_is in record { status_is = rw (eqb_self t, held, eqb_self t) refl; holds_is = i.holds_is }

-- nothing that a holder relies on changes when the init answers or the value is put
by_same : (limit : ℕ) (c c' : SharedState) (by : Option ℕ) → (c'.quick ≡ c.quick) × (c'.head ≡ c.head) × (c'.count ≡ c.count) × (c'.door ≡ c.door)
    → HoldsBy limit c by → HoldsBy limit c' by
by_same limit c c' None s a = (record { quick_is = s.0 ∙ a.0.quick_is; head_is = s.1 ∙ a.0.head_is }, rw s.2 a.1)
by_same limit c c' (Some x) s a = (record { quick_is = s.0 ∙ a.0.quick_is; head_is = s.1 ∙ a.0.head_is }, s.3 ∙ a.1)

-- where a holder gives the right back, by how it holds
pub gives_back : (K : Kind) (limit t : ℕ) (c : SharedState) (h : List Entry) (by : Option ℕ) (e : Ending) → Releasing K t h c e
    → HoldsBy limit c by → AtPlace K limit t c h (release_place by e)
gives_back K limit t c h None e r b = (r, b.0, b.1)
gives_back K limit t c h (Some q) e r b = (r, inr b.0, b.1)

-- a task that goes from the place p to p' stays counted as it is, does not take the queue, does not wait, and has no ticket
abbrev IsAlike : Place ℕ ℕ → Place ℕ ℕ → Type 0
IsAlike p p' = (is_counted_at p ≡ is_counted_at p') × (is_take_at p' ≡ false) × (is_inside_at p' ≡ false) × (ticket_at p' ≡ None)

-- so does one that gives the right back
pub back_counts : (by : Option ℕ) (e : Ending) → IsAlike (AtRun by) (release_place by e)
back_counts by e = grind (arith, common_steps)

-- and one that puts the value is counted too
put_counts : (by : Option ℕ) → is_counted_at (AtRun by) ≡ is_counted_at (AtPut by)
put_counts by = grind (arith, common_steps)

module _ {K : Kind} {limit t w : ℕ} {k : Answer} {c : SharedState} {h : List Entry} (before : Before K limit t w k c h) where
  -- an init that gave a value or an error
  ran_so : (by : Option ℕ) (a : Answer) (p' : Place ℕ ℕ) → IsNext K a (answers_left K h) → InPoll K t h None true
      → AtPlace K limit t (run_shared c) (Ran t a ∷ h) p' → IsAlike (AtRun by) p'
      → Goes K limit t w (AtRun by) c h (record { shared = run_shared c; step = UnderWay p'; kept = a; entries = Ran t a ∷ [] })
  ran_so by a p' next i own same =
      let legal : IsLegal K limit (Ran t a) h = (held_by t (cell K h) i.holds_is, i.status_is, i.ran_is, next) in
      record {
        run = (legal, before.run);
        shared = ran_fits K limit t c h a before.shared;
        queue = quiet before.queue refl refl (λ _. refl) (λ u is. polls_not_waits K t u h is i.status_is) (λ x. x);
        own = own;
        waker_is = rw (eqb_self t) before.waker_is;
        kept_is = rw (eqb_self t) refl;
        others = λ u n. legal_keeps K u (Ran t a) limit h (of_other t u n) legal refl;
        keeps = λ u n b j. same_shared refl refl refl refl refl (λ x. x);
        count = rw same.0 refl;
        made = refl;
        takes = λ e. absurd (false≢true (sym same.1 ∙ e));
        enters = λ e. absurd (false≢true (sym same.2 ∙ e));
        listings = lists_stay refl (λ x. x) (inl same.3);
        moments = λ a s. (s, a);
      }

  -- an init that is pending
  pending_so : (by : Option ℕ) → IsNext K RanPending (answers_left K h) → InPoll K t h None true
      → HoldsBy limit (run_shared c) by → Goes K limit t w (AtRun by) c h (run_step RanPending (run_shared c) t k by)
  pending_so by next i own =
      let held : cell K h ≡ Held t = held_by t (cell K h) i.holds_is in
      let legal : IsLegal K limit (Ran t RanPending) h = (held, i.status_is, i.ran_is, next) in
      let h1 : List Entry = Ran t RanPending ∷ h in
      let polls : status K t h1 ≡ Polling = rw (eqb_self t) i.status_is in
      let legal1 : IsLegal K limit (End t Pending) h1 = (polls, rw (eqb_self t) held, inl (rw (eqb_self t) i.unpassed)) in
      record {
        run = (legal1, (legal, before.run));
        shared = shared_at refl refl (ran_fits K limit t c h RanPending before.shared);
        queue = quiet (quiet before.queue refl refl (λ _. refl) (λ u is. polls_not_waits K t u h is i.status_is) (λ x. x))
            refl refl (λ w. opens_none K t w h1 held) (λ u is. holding_not_waits
            (status_after (End t Pending) (cell K h1) (status K u h1))
            (pending_status_own t (cell K h1) (status K u h1) held)) (λ x. x);
        own = ((pending_in K t h i, own), rw (eqb_self t) refl);
        waker_is = rw (eqb_self t) before.waker_is;
        kept_is = rw (eqb_self t) (before.kept_is ∙ ap kept_of i.ran_is);
        others = λ u n. keeps_both K u h h1 (End t Pending ∷ h1)
            (legal_keeps K u (Ran t RanPending) limit h (of_other t u n) legal refl)
            (legal_keeps K u (End t Pending) limit h1 (of_other t u n) legal1 refl);
        keeps = λ u n b j. same_shared refl refl refl refl refl (λ x. x);
        count = refl;
        made = refl;
        takes = λ e. absurd (false≢true e);
        enters = λ e. absurd (false≢true e);
        listings = lists_stay refl (λ x. x) (inl refl);
        moments = λ a s. (s, ((λ e. absurd (held_not_empty t (sym held ∙ e))), a));
      }

  -- an init that gave a value
  run_value : (by : Option ℕ) (v : ℕ) → IsNext K (RanValue v) (answers_left K h) → InPoll K t h None true
      → HoldsBy limit (run_shared c) by → is_counted_at (AtRun by) ≡ is_counted_at (AtPut by)
      → Goes K limit t w (AtRun by) c h (run_step (RanValue v) (run_shared c) t k by)
  run_value by v x i own n = ran_so by (RanValue v) (AtPut by) x i (v, ran_in K t h (RanValue v) i, own) (n, refl, refl, refl)

  -- a step that polls the init
  pub run_goes : (a : Answer) (by : Option ℕ) → IsNext K a (answers_left K h) → AtPlace K limit t c h (AtRun by)
      → Goes K limit t w (AtRun by) c h (run_step a (run_shared c) t k by)
  run_goes RanPending by x a = pending_so by x a.0 (by_same limit c (run_shared c) by (refl, refl, refl, refl) a.1)
  run_goes (RanValue v) by x a = run_value by v x a.0 (by_same limit c (run_shared c) by (refl, refl, refl, refl) a.1) (put_counts by)
  run_goes (RanError e) by x a =
      let b = by_same limit c (run_shared c) by (refl, refl, refl, refl) a.1 in
      let own = gives_back K limit t (run_shared c) (Ran t (RanError e) ∷ h) by EndError (e, ran_in K t h (RanError e) a.0) b in
      ran_so by (RanError e) (release_place by EndError) x a.0 own (back_counts by EndError)

  -- the value that is kept is put
  put_so : (by : Option ℕ) (p' : Place ℕ ℕ) (c' : SharedState) → holds t (cell K h) ≡ true → SharedFits K limit c' h
      → c'.listings ≡ c.listings → c'.door ≡ c.door → c'.count ≡ c.count → AtPlace K limit t c' h p' → IsAlike (AtPut by) p'
      → Goes K limit t w (AtPut by) c h (goes_to c' k p')
  put_so by p' c' hold fits same door m own alike =
      moves_on before (AtPut by) c' p' fits (rw same before.queue) own
      (λ u d b i. holder_shared before.shared hold door u d b) (rw (alike.0, m) refl)
      (λ e. absurd (false≢true (sym alike.1 ∙ e))) (λ e. absurd (false≢true (sym alike.2 ∙ e)))
      (lists_stay same (λ r. fits.ready_is ∙ sym before.shared.ready_is ∙ r) (inl alike.3))

  -- what is put is what the init gave
  put_is : (v : ℕ) → (last_call K t h).ran ≡ Some (RanValue v) → put_value k c.value ≡ v
  put_is v e = ap (λ x. put_value x c.value) (before.kept_is ∙ ap kept_of e)

  -- a step that puts the value
  pub put_goes : (by : Option ℕ) → AtPlace K limit t c h (AtPut by)
      → Goes K limit t w (AtPut by) c h (goes_to (record c { value = put_value k c.value }) k (release_place by EndValue))
  put_goes by a =
      let c' : SharedState = record c { value = put_value k c.value } in
      let n = back_counts by EndValue in
      let own = gives_back K limit t c' h by EndValue (a.0, a.1, put_is a.0 a.1.ran_is) (by_same limit c c' by (refl, refl, refl, refl) a.2) in
      put_so by (release_place by EndValue) c' a.1.holds_is
      (value_fits K limit t c h (put_value k c.value) before.shared (held_by t (cell K h) a.1.holds_is)) refl refl refl
      own (sym (put_counts by) ∙ n.0, n.1, n.2, n.3)

  -- a step that counts the holder in
  pub add_goes : (e : Ending) → AtPlace K limit t c h (AtAddOne e)
      → Goes K limit t w (AtAddOne e) c h (goes_to (record c { count = suc c.count }) k (AtDoorAgain e))
  add_goes e a = moves_on before (AtAddOne e) (record c { count = suc c.count }) (AtDoorAgain e)
      (count_fits before.shared (let le = a.2 in omega arith) (λ _ _. a.3)) before.queue
      (releasing_same K t h c (record c { count = suc c.count }) e refl a.0, record { quick_is = a.1.quick_is; head_is = a.1.head_is }, a.3)
      (λ u n b i. holder_shared before.shared
      (releasing_holds K t c h e a.0) refl u n b) (omega arith) (λ e. absurd (false≢true e))
      (λ e. absurd (false≢true e)) (lists_stay refl (λ x. x)
      (inl refl))

  -- a step that looks at the door again
  pub again_goes : (door : Option ℕ) (e : Ending) → c.door ≡ door → AtPlace K limit t c h (AtDoorAgain e)
      → Goes K limit t w (AtDoorAgain e) c h (outcome_of c t k [] (after_door_again door e))
  again_goes (Some q) e d a = stays before (AtDoorAgain e) (AtRelease q e) (a.0, inl a.1, d) refl refl (λ e. absurd (false≢true e)) (inl refl)
  again_goes None e d a = absurd (none_some a.2.0 (sym d ∙ a.2.1))
