-- The beginning of a poll and of a drop.
use Rattle.std.proofs.Common.{◌≡◌, ℕ, Bool, true, false, inl, inr, List, ◌∷◌, ◌++◌, Option, Some, None, refl, sym, ap, ◌∙◌, arith}
use Rattle.std.proofs.lemmas.Bool.{false≢true}
use Rattle.once_machine.specs.Record.{Answer, Begin, DropBegin, DropEnd, Entry, Kind, RanPending}
use Rattle.once_machine.specs.Cell.{cell}
use Rattle.once_machine.specs.Tasks.{Dropping, Fresh, Waiting, status}
use Rattle.once_machine.specs.Called.{SomebodyCalled}
use Rattle.once_machine.specs.Run.{IsLegal, MayBegin}
use Rattle.once_machine.specs.Machine.{AtLeave, EndDropped, Finished, SharedState, Place, Rest, RestRun, RestStart, RestWait, Resting, Step}
use Rattle.once_machine.specs.Machine.{UnderWay, step_of_poll, place_of_poll, release_place, drop_entries, step_of_drop, step_of_drop_at, is_resting}
use Rattle.once_machine.proofs.Listing.Members.{eqb_self}
use Rattle.once_machine.proofs.History.Others.{holds, keeps_both, legal_keeps}
use Rattle.once_machine.proofs.History.Waiters.{quiet}
use Rattle.once_machine.proofs.Invariant.Facts.{AtPlace, AtRest, AtStep, Entered, HasTicket, InPoll, InStatus, RestsOn, is_counted, is_counted_at, is_inside}
use Rattle.once_machine.proofs.Invariant.Facts.{is_inside_at, is_take_at, ticket_at, ticket_of}
use Rattle.once_machine.proofs.Invariant.Turns.{lists_stay}
use Rattle.once_machine.proofs.Invariant.Moves.{Moves}
use Rattle.once_machine.proofs.Place.Builders.{Before, shared_at, of_other, same_shared}
use Rattle.once_machine.proofs.Place.Holds.{back_counts, gives_back}
use Rattle.once_machine.proofs.Input.Drops.{drop_moment, now}

-- a poll that just began has not claimed
begun_entered : (K : Kind) (t w : ℕ) (h : List Entry) → holds t (cell K h) ≡ false → Entered K t (Begin t w ∷ h)
begun_entered K t w h n = record { poll = record { status_is = rw (eqb_self t) refl; ran_is = rw (eqb_self t) refl; holds_is = n; unpassed = rw (eqb_self t) refl }; unclaimed = rw (eqb_self t) refl }

-- a holder holds in its next poll
begun_holds : (K : Kind) (t w : ℕ) (h : List Entry) → holds t (cell K h) ≡ true → InPoll K t (Begin t w ∷ h) None true
begun_holds K t w h n = record { status_is = rw (eqb_self t) refl; ran_is = rw (eqb_self t) refl; holds_is = n; unpassed = rw (eqb_self t) refl }

-- a drop that just began
dropping : (K : Kind) (t : ℕ) (h : List Entry) (b : Bool) → holds t (cell K h) ≡ b → InStatus K t (DropBegin t ∷ h) Dropping b
dropping K t h b n = record { status_is = rw (eqb_self t) refl; holds_is = n }

-- a waiter keeps its ticket in its next poll
begun_ticket : (K : Kind) (t w : ℕ) (c : SharedState) (h : List Entry) (n : Option ℕ) → status K t h ≡ Waiting
    → RestsOn K t c h n → HasTicket K t c (Begin t w ∷ h) n
begun_ticket K t w c h None s a = tt
begun_ticket K t w c h (Some n) s a = (rw (eqb_self t) s, λ r. rw (eqb_self t) (a.1 r))

module _ {K : Kind} {limit t w : ℕ} {k : Answer} {c : SharedState} {h : List Entry} (before : Before K limit t w k c h) where
  -- a call begins: t goes from one step to another, with this waker, and nothing that all tasks share changes but the history
  abbrev Begun : ℕ → Step ℕ ℕ → Step ℕ ℕ → List Entry → Type 0
  Begun v s s' h' = Moves K limit t s (record { waker = v; kept = k; step = s' }) c c h h'

  -- a poll that begins
  begin_moves : (v : ℕ) (r : Rest ℕ) → MayBegin (status K t h) → k ≡ RanPending
      → AtPlace K limit t c (Begin t v ∷ h) (place_of_poll r) → is_take_at (place_of_poll r) ≡ false
      → Begun v (Resting r) (UnderWay (place_of_poll r)) (Begin t v ∷ h)
  begin_moves v r legal nothing own take = record {
    run = (legal, before.run);
    shared = shared_at refl refl before.shared;
    queue = quiet before.queue refl refl (λ _. refl) (λ u is. grind arith) (λ x. x);
    own = own;
    waker_is = rw (eqb_self t) refl;
    kept_is = rw (eqb_self t) nothing;
    others = λ u n. legal_keeps K u (Begin t v) limit h (of_other t u n) legal refl;
    keeps = λ u n b i. same_shared refl refl refl refl refl (λ x. x);
    count = refl;
    made = refl;
    takes = λ e. absurd (false≢true (sym take ∙ e));
    enters = λ e. inl e;
    listings = lists_stay refl (λ r. r) (inl refl);
    moments = λ a s. (s, a);
  }

  -- a drop that begins in the count or with the right
  drop_moves : (r : Rest ℕ) (p : Place ℕ ℕ) → MayBegin (status K t h) → k ≡ RanPending
      → AtPlace K limit t c (DropBegin t ∷ h) p → is_counted (Resting r) ≡ is_counted_at p → is_take_at p ≡ false
      → (is_inside_at p ≡ true → is_inside (Resting r) ≡ true) → ticket_at p ≡ ticket_of (Resting r)
      → Begun w (Resting r) (UnderWay p) (DropBegin t ∷ h)
  drop_moves r p legal nothing own n take inside ticket = record {
    run = (legal, before.run);
    shared = shared_at refl refl before.shared;
    queue = quiet before.queue refl refl (λ _. refl) (λ u is. grind arith) (λ x. x);
    own = own;
    waker_is = rw (eqb_self t) before.waker_is;
    kept_is = rw (eqb_self t) nothing;
    others = λ u n. legal_keeps K u (DropBegin t) limit h (of_other t u n) legal refl;
    keeps = λ u n b i. same_shared refl refl refl refl refl (λ x. x);
    count = rw n refl;
    made = refl;
    takes = λ e. absurd (false≢true (sym take ∙ e));
    enters = λ e. inl (inside e);
    listings = lists_stay refl (λ r. r) (inl ticket);
    moments = λ a s. (s, a);
  }

  -- the drop of a task that was never polled
  drop_fresh : InStatus K t h Fresh false → k ≡ RanPending → Begun w (Resting RestStart) Finished (DropEnd t ∷ DropBegin t ∷ h)
  drop_fresh a nothing =
      let legal : IsLegal K limit (DropBegin t) h = rw a.status_is tt in
      let legal1 : IsLegal K limit (DropEnd t) (DropBegin t ∷ h) = (rw (eqb_self t) refl, λ e. false≢true (sym a.holds_is ∙ ap (holds t) e ∙ eqb_self t)) in
      record {
        run = (legal1, (legal, before.run));
        shared = shared_at refl refl before.shared;
        queue = quiet
            (quiet before.queue refl refl (λ _. refl) (λ u is. grind arith) (λ x. x)) refl refl
            (λ _. refl) (λ u is. grind arith) (λ x. x);
        own = record { status_is = rw (eqb_self t) refl; holds_is = a.holds_is };
        waker_is = rw (eqb_self t) before.waker_is;
        kept_is = rw (eqb_self t) nothing;
        others = λ u d. keeps_both K u h (DropBegin t ∷ h) (DropEnd t ∷ DropBegin t ∷ h)
            (legal_keeps K u (DropBegin t) limit h (of_other t u d) legal refl)
            (legal_keeps K u (DropEnd t) limit (DropBegin t ∷ h) (of_other t u d) legal1 refl);
        keeps = λ u d b i. same_shared refl refl refl refl refl (λ x. x);
        count = refl;
        made = refl;
        takes = λ e. absurd (false≢true e);
        enters = λ e. absurd (false≢true e);
        listings = lists_stay refl (λ r. r) (inl refl);
        moments = λ b s. (s, (drop_moment K limit t h a.status_is legal (now (SomebodyCalled K) h b), b));
      }

  -- the poll begins, by the place at rest
  begins_at : (v : ℕ) (r : Rest ℕ) → k ≡ RanPending → AtRest K limit t c h r → Begun v (Resting r) (UnderWay (place_of_poll r)) (Begin t v ∷ h)
  begins_at v RestStart g a =
      begin_moves v RestStart (rw a.status_is tt) g
      (begun_entered K t v h a.holds_is, rw (eqb_self t) a.status_is, λ e. (rw (eqb_self t) at e)) refl
  begins_at v (RestWait q n) g a =
      begin_moves v (RestWait q n) (rw a.0.status_is tt) g
      (record { entered = begun_entered K t v h a.0.holds_is; from = inr (rw (eqb_self t) a.0.status_is) }, a.1, begun_ticket K t v c h n a.0.status_is a.2) refl
  begins_at v (RestRun by) g a = begin_moves v (RestRun by) (rw a.0.status_is tt) g (begun_holds K t v h a.0.holds_is, a.1) refl

  -- a poll begins from the step at rest
  pub begins : (v : ℕ) (s : Step ℕ ℕ) → is_resting s ≡ true → AtStep K limit t c h s → Begun v s (step_of_poll s) (Begin t v ∷ h)
  begins v (Resting r) n a = begins_at v r (before.kept_is ∙ a.1) a.0
  begins v _ n a = absurd (false≢true n)

  -- the drop begins, by the place at rest
  drops_at : (r : Rest ℕ) → AtStep K limit t c h (Resting r) → Begun w (Resting r) (step_of_drop_at r) (drop_entries t (step_of_drop_at r) ++ h)
  drops_at RestStart a = drop_fresh a.0 (before.kept_is ∙ a.1)
  drops_at (RestWait q None) a = absurd a.0.2
  drops_at (RestWait q (Some n)) a =
      drop_moves (RestWait q (Some n)) (AtLeave q n EndDropped) (rw a.0.0.status_is tt) (before.kept_is ∙ a.1)
      ((dropping K t h false a.0.0.holds_is, rw (eqb_self t) refl, rw (eqb_self t) refl), a.0.1, rw (eqb_self t) a.0.0.status_is, λ r. rw (eqb_self t) (a.0.2.1 r))
      refl refl (λ _. refl) refl
  drops_at (RestRun by) a =
      let n = back_counts by EndDropped in
      let own = gives_back K limit t c (DropBegin t ∷ h) by EndDropped (dropping K t h true a.0.0.holds_is, rw (eqb_self t) refl) a.0.1 in
      drop_moves (RestRun by) (release_place by EndDropped) (rw a.0.0.status_is tt) (before.kept_is ∙ a.1)
      own n.0 n.1 (λ e. absurd (false≢true (sym n.2 ∙ e))) n.3

  -- a drop begins from the step at rest
  pub drop_begins : (s : Step ℕ ℕ) → is_resting s ≡ true → AtStep K limit t c h s → Begun w s (step_of_drop s) (drop_entries t (step_of_drop s) ++ h)
  drop_begins (Resting r) n a = drops_at r a
  drop_begins _ n a = absurd (false≢true n)
