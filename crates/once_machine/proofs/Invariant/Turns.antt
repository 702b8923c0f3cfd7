-- What the tickets of the tasks tell: which task has which listing, and that some task was woken.
use Rattle.std.proofs.Common.{◌≡◌, ◌≢◌, ℕ, true, false, ◌⊎◌, inl, inr, ⊎_elim, List, Option, Some, None, sym, ap, ◌∙◌, subst}
use Rattle.std.proofs.lemmas.Bool.{false≢true, cases_eq}
use Rattle.once_machine.specs.Record.{Entry, Kind}
use Rattle.once_machine.specs.Cell.{cell, is_set}
use Rattle.once_machine.specs.Tasks.{Waiting, is_under_way, last_call, status}
use Rattle.once_machine.specs.Listings.{find_listing}
use Rattle.once_machine.specs.Called.{HasTurn, SomebodyCalled}
use Rattle.once_machine.specs.Machine.{AtLeave, AtList, AtLook, AtWaitLoad, EndDropped, EndMemory, Ending, Finished, SharedState, Place, Rest, RestRun}
use Rattle.once_machine.specs.Machine.{RestStart, RestWait, Resting, Step, Task, UnderWay, World, step_of}
use Rattle.once_machine.proofs.History.Waiters.{CalledAt}
use Rattle.once_machine.proofs.Invariant.Facts.{AnyIn, AtPlace, AtRest, AtStep, HasTicket, IsListed, IsSomeDoor, MayLeave, RestsOn, ticket_at, ticket_of}
use Rattle.once_machine.proofs.Invariant.Fits.{Fits, StandsFor}
use Rattle.once_machine.proofs.Invariant.Listed.{IsKept, none_not_some, same_some}

-- what a step of t, whose ticket was k and then is k', owes of the listings
pub record ListMoves (t : ℕ) (k k' : Option ℕ) (c c' : SharedState) (h' : List Entry) : Type 0 where
  pub up : c.ready ≡ true → c'.ready ≡ true
  pub lists : (u n : ℕ) (o : Option ℕ) → t ≢ u → (k ≡ Some n → ⊥) → c'.ready ≡ false → find_listing n c.listings ≡ Some o → IsKept u n o c'.listings h'
  pub fresh : (n : ℕ) → k' ≡ Some n → (k ≡ Some n) ⊎ ((c.ready ≡ false) × (find_listing n c.listings ≡ None))
  pub owner : c'.ready ≡ false → (n : ℕ) (o : Option ℕ) → find_listing n c'.listings ≡ Some o
      → (k' ≡ Some n) ⊎ ((k ≡ Some n → ⊥) × ((o' : Option ℕ) × (find_listing n c.listings ≡ Some o')))

-- a ticket is n, or it is not
pub decide : (k : Option ℕ) (n : ℕ) → (k ≡ Some n) ⊎ (k ≡ Some n → ⊥)
decide None n = inr (none_not_some n)
decide (Some m) n = ⊎_elim (λ e. inl (ap (λ (v : ℕ). Some v) e)) (λ d. inr (λ e. d (same_some m n e))) (cases_eq m n)

-- a step that leaves the list alone, and the ticket too unless the value is set
pub lists_stay : {t : ℕ} {k k' : Option ℕ} {c c' : SharedState} {h' : List Entry} → c'.listings ≡ c.listings
    → (c.ready ≡ true → c'.ready ≡ true) → (k' ≡ k) ⊎ ((k' ≡ None) × (c'.ready ≡ true)) → ListMoves t k k' c c' h'
lists_stay {k = k} same up (inl e) = record {
  up = up;
  lists = λ u n o d x r f. inl (rw same f);
  fresh = λ n q. inl (sym e ∙ q);
  owner = λ r n o f. ⊎_elim (λ q. inl (e ∙ q)) (λ q. inr (q, (o, rw same at f))) (decide k n);
}
lists_stay {k = k} same up (inr e) = record {
  up = up;
  lists = λ u n o d x r f. inl (rw same f);
  fresh = λ n q. absurd (none_not_some n (sym e.0 ∙ q));
  owner = λ r n o f. absurd (false≢true (sym r ∙ e.1));
}

-- what a task with the ticket n is
pub record Ticketed (K : Kind) (u : ℕ) (c : SharedState) (h : List Entry) (n : ℕ) : Type 0 where
  pub acts : (status K u h ≡ Waiting) ⊎ HasTurn K u h
  pub listed : IsListed K u c h n
  pub door : IsSomeDoor c

has_at : (K : Kind) (u n : ℕ) (c : SharedState) (h : List Entry) (k : Option ℕ) → k ≡ Some n → HasTicket K u c h k
    → ((last_call K u h).began ≡ Waiting) × IsListed K u c h n
has_at K u n c h None e a = absurd (none_not_some n e)
has_at K u n c h (Some m) e a = (a.0, subst (λ v. IsListed K u c h v) (same_some m n e) a.1)

rests_at : (K : Kind) (u n : ℕ) (c : SharedState) (h : List Entry) (k : Option ℕ) → k ≡ Some n → RestsOn K u c h k → IsListed K u c h n
rests_at K u n c h None e a = absurd a
rests_at K u n c h (Some m) e a = subst (λ v. IsListed K u c h v) (same_some m n e) a.1

-- a task that leaves has its turn until it passes it on
leaves_turn : (K : Kind) (u : ℕ) (h : List Entry) (e : Ending) → (last_call K u h).began ≡ Waiting → MayLeave K u h e → HasTurn K u h
leaves_turn K u h EndMemory b a = record { under_way = ap is_under_way a.0.poll.status_is; began = b; unclaimed = a.0.unclaimed; unpassed = a.0.poll.unpassed }
leaves_turn K u h EndDropped b a = record { under_way = ap is_under_way a.0.status_is; began = b; unclaimed = a.1; unpassed = a.2 }
leaves_turn K u h _ b a = absurd a

module _ (K : Kind) (limit u : ℕ) (c : SharedState) (h : List Entry) {n : ℕ} where
  -- a waiter in a poll that has a ticket
  polls_at : (q : ℕ) (k : Option ℕ) → k ≡ Some n → AnyIn K u h → c.door ≡ Some q → HasTicket K u c h k → Ticketed K u c h n
  polls_at q k e a d f =
      let l = has_at K u n c h k e f in
      record {
        acts = inr (record {
          under_way = ap is_under_way a.entered.poll.status_is;
          began = l.0;
          unclaimed = a.entered.unclaimed;
          unpassed = a.entered.poll.unpassed;
        });
        listed = l.1;
        door = (q, d);
      }

  -- by the place
  ticketed_at : (p : Place ℕ ℕ) → AtPlace K limit u c h p → ticket_at p ≡ Some n → Ticketed K u c h n
  ticketed_at (AtWaitLoad q k) a e = polls_at q k e a.0 a.1 a.2
  ticketed_at (AtLook q k) a e = polls_at q k e a.0 a.1 a.2
  ticketed_at (AtList q k w) a e = polls_at q k e a.0 a.1 a.2
  ticketed_at (AtLeave q m x) a e = record { acts = inr (leaves_turn K u h x a.2 a.0); listed = subst (λ v. IsListed K u c h v) (same_some m n e) a.3; door = (q, a.1) }
  ticketed_at _ a e = absurd (none_not_some n e)

  -- at rest
  ticketed_rest : (r : Rest ℕ) → AtRest K limit u c h r → ticket_of (Resting r) ≡ Some n → Ticketed K u c h n
  ticketed_rest RestStart a e = absurd (none_not_some n e)
  ticketed_rest (RestWait q k) a e = record { acts = inl a.0.status_is; listed = rests_at K u n c h k e a.2; door = (q, a.1) }
  ticketed_rest (RestRun by) a e = absurd (none_not_some n e)

  -- by the step
  ticketed_in : (s : Step ℕ ℕ) → AtStep K limit u c h s → ticket_of s ≡ Some n → Ticketed K u c h n
  ticketed_in (Resting r) a e = ticketed_rest r a.0 e
  ticketed_in (UnderWay p) a e = ticketed_at p a e
  ticketed_in Finished a e = absurd (none_not_some n e)

  -- by whether the task is there
  ticketed_by : (o : Option Task) → StandsFor K limit u c h o → ticket_of (step_of o) ≡ Some n → Ticketed K u c h n
  ticketed_by None a e = absurd (none_not_some n e)
  ticketed_by (Some x) a e = ticketed_in x.step a.step e

-- what a task of the world with the ticket n is
pub ticketed : {K : Kind} {limit : ℕ} {w : World} (f : Fits K limit w) (u : ℕ) {n : ℕ} → ticket_of (step_of (w.tasks u)) ≡ Some n → Ticketed K u w.shared w.history n
ticketed {K = K} {limit = limit} {w = w} f u e = ticketed_by K limit u w.shared w.history (w.tasks u) (f.tasks u) e

called_not : (c : SharedState) (n w : ℕ) → find_listing n c.listings ≡ Some None → find_listing n c.listings ≡ Some (Some w) → ⊥
called_not c n w a b = cc

-- in an empty cell for which some task waits, a listing was woken, and so was its task
pub somebody_called : (K : Kind) (limit : ℕ) (c : SharedState) (h : List Entry) (tasks : ℕ → Option Task)
    → c.ready ≡ is_set (cell K h) → CalledAt K c.listings h
    → (c.ready ≡ false → (n : ℕ) (o : Option ℕ) → find_listing n c.listings ≡ Some o → (u : ℕ) × (ticket_of (step_of (tasks u)) ≡ Some n))
    → ((u : ℕ) → StandsFor K limit u c h (tasks u)) → SomebodyCalled K h
somebody_called K limit c h tasks ready called owned stands = λ e u s.
    let r : c.ready ≡ false = ready ∙ ap is_set e in
    let n = called e u s in
    let v = owned r n.0 None n.1 in
    let k = ticketed_by K limit v.0 c h (tasks v.0) (stands v.0) v.1 in
    (v.0, (k.acts, ⊎_elim (λ f. absurd (called_not c n.0 (last_call K v.0 h).listed n.1 f)) (λ f. f.1) (k.listed r)))
