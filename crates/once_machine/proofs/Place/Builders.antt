-- The kinds of step: none recorded, an end, a wait, a claim.
use Rattle.std.proofs.Common.{◌≡◌, ◌≢◌, ◌≤◌, ◌+◌, ℕ, Bool, true, false, cond, ◌==◌, ◌⊎◌, inl, inr, List, [], ◌∷◌, ◌++◌, Option, Some, None, refl, sym, ap, ◌∙◌, arith}
use Rattle.std.proofs.lemmas.Bool.Decides.{nat_tests}
use Rattle.std.proofs.lemmas.Grind.{common_steps}
use Rattle.std.proofs.lemmas.Bool.{false≢true, ne_eqb, eqb-true}
use Rattle.once_machine.specs.Numbers.{bit}
use Rattle.once_machine.specs.Record.{Answer, Claim, End, Entry, Kind, Pending, RanError, RanValue, Value, handed_by, is_of, is_own, is_replacing, made_in}
use Rattle.once_machine.specs.Cell.{Cell, Empty, Held, SetTo, answers_after, answers_left, cell, cell_after}
use Rattle.once_machine.specs.Tasks.{Gone, LastCall, Polling, Status, Waiting, last_call, last_call_after, status, status_after}
use Rattle.once_machine.specs.Listings.{find_listing}
use Rattle.once_machine.specs.Wakers.{opens}
use Rattle.once_machine.specs.Refusals.{OtherHolds}
use Rattle.once_machine.specs.Run.{IsLegal, IsRun, MayEnd}
use Rattle.once_machine.specs.Machine.{AtRun, EndDropped, EndError, EndMemory, EndPending, EndValue, Ending, SharedState, Outcome, Place, UnderWay, end_entry, error_in}
use Rattle.once_machine.proofs.Listing.Members.{eqb_self}
use Rattle.once_machine.proofs.History.Others.{holds, keeps_all, legal_keeps}
use Rattle.once_machine.proofs.History.Cells.{held_not_empty}
use Rattle.once_machine.proofs.Listing.Listings.{asks}
use Rattle.once_machine.proofs.History.Waiters.{QueueFits, entry_fits, quiet}
use Rattle.once_machine.proofs.Invariant.Facts.{AtPlace, Entered, HoldsBy, InStatus, Owes, is_counted_at, is_inside_at, is_take_at, kept_of, ticket_at}
use Rattle.once_machine.proofs.Invariant.Fits.{SharedFits}
use Rattle.once_machine.proofs.Invariant.Kept.{SharedKeeps}
use Rattle.once_machine.proofs.Invariant.Turns.{ListMoves, lists_stay}
use Rattle.once_machine.proofs.Invariant.Moves.{Moves}
use Rattle.once_machine.proofs.Invariant.Around.{owes_holds}
use Rattle.once_machine.proofs.Place.Outcomes.{claims, ends, goes_to, waits}

-- an entry of t is of no other task
pub of_other : (t u : ℕ) → t ≢ u → (t == u) ≡ false
of_other t u n = ne_eqb t u n

-- t with the waker w, at the place p, makes the step o
abbrev pub Goes : Kind → ℕ → ℕ → ℕ → Place ℕ ℕ → SharedState → List Entry → Outcome → Type 0
Goes K limit t w p c h o = Moves K limit t (UnderWay p) (record { waker = w; kept = o.kept; step = o.step }) c o.shared h (o.entries ++ h)

-- what a step that leaves flags, door and value alone leaves for the others
pub same_shared : {K : Kind} {limit : ℕ} {c c' : SharedState} {u : ℕ} {h : List Entry} {b : Bool} → c'.ready ≡ c.ready → c'.door ≡ c.door → c'.quick ≡ c.quick → c'.head ≡ c.head → c'.value ≡ c.value
    → (c.count ≤ limit → c'.count ≤ limit) → SharedKeeps K limit c c' u h b
same_shared r d q e v n = record {
  ready = λ k. r ∙ k;
  door = λ j k. inl (d ∙ k);
  flags = inl (q, e, v);
  within = inl n;
}

-- what a step that leaves the door alone leaves for a task that does not hold
pub free_shared : {K : Kind} {limit : ℕ} {c c' : SharedState} {u : ℕ} {h : List Entry} {b : Bool} → (c.ready ≡ true → c'.ready ≡ true) → c'.door ≡ c.door → holds u (cell K h) ≡ false
    → SharedKeeps K limit c c' u h b
free_shared r d n = record {
  ready = r;
  door = λ j k. inl (d ∙ k);
  flags = inr n;
  within = inr n;
}

-- an entry that ends a call for good
pub record IsLast (t : ℕ) (e : Entry) : Type 0 where
  pub cell_is : (c : Cell) → cell_after e c ≡ c
  pub gone : (c : Cell) (s : Status) → status_after e c s ≡ Gone
  pub hands : handed_by e ≡ []
  pub owns : is_own e ≡ false
  pub replaces_not : is_replacing e ≡ false
  pub left_is : (l : List (Option ℕ)) → answers_after e l ≡ l
  pub shut : (K : Kind) (w : ℕ) (h : List Entry) → opens K w e h ≡ false
  pub of : (u : ℕ) → is_of u e ≡ (t == u)
  pub call_is : (c : Cell) (s : Status) (k : LastCall) → last_call_after e c s k ≡ k
  pub made : (h : List Entry) → made_in (e ∷ h) ≡ made_in h

-- all endings but Pending
is_last : (t v : ℕ) (k : Answer) (e : Ending) → e ≢ EndPending → IsLast t (end_entry e t v k)
is_last t v k e n = record {
  cell_is = λ c. grind (arith, nat_tests, common_steps, n);
  gone = λ c s. grind (arith, nat_tests, common_steps, n);
  hands = grind (arith, nat_tests, common_steps, n);
  owns = grind (arith, nat_tests, common_steps, n);
  replaces_not = grind (arith, nat_tests, common_steps, n);
  left_is = λ l. grind (arith, nat_tests, common_steps, n);
  shut = λ K w h. grind (arith, nat_tests, common_steps, n);
  of = λ u. grind (arith, nat_tests, common_steps, n);
  call_is = λ c s l. grind (arith, nat_tests, common_steps, n);
  made = λ h. grind (arith, nat_tests, common_steps, n);
}

-- a call that owes an ending does not end Pending
pub owes_lasts : (K : Kind) (t : ℕ) (h : List Entry) (e : Ending) → Owes K t h e → e ≢ EndPending
owes_lasts K t h e o n = grind (arith, nat_tests, common_steps)

-- what is shared fits the cell alone
pub shared_at : {K : Kind} {limit : ℕ} {c : SharedState} {h h' : List Entry} → cell K h' ≡ cell K h
    → answers_left K h' ≡ answers_left K h → SharedFits K limit c h → SharedFits K limit c h'
shared_at e s f = record {
  answers_is = f.answers_is ∙ sym s;
  ready_is = rw e f.ready_is;
  held_is = rw e f.held_is;
  value_is = λ v k. f.value_is v (sym e ∙ k);
  within = f.within;
  stands = f.stands;
  head_door = f.head_door;
}

-- a task that does not hold is not the holder
not_holding : (t : ℕ) (c : Cell) → holds t c ≡ false → c ≢ Held t
not_holding t c n e = false≢true (sym n ∙ ap (holds t) e ∙ eqb_self t)

-- a poll may end with the value that is set
value_legal : (K : Kind) (limit t v : ℕ) (h : List Entry) (r : Option Answer) → cell K h ≡ SetTo v
    → (r ≡ None) ⊎ (r ≡ Some (RanValue v)) → MayEnd K limit t (Value v) r h
value_legal K limit t v h r c (inl e) = rw e c
value_legal K limit t v h r c (inr e) = rw e (refl, c)

-- the error that is kept is the one that the init answered
error_kept : (e : ℕ) (k : Answer) (r : Option Answer) → k ≡ kept_of r → r ≡ Some (RanError e) → error_in k ≡ e
error_kept e k r a b = ap error_in (a ∙ ap kept_of b)

-- a call may end as it owes
owes_legal : (K : Kind) (limit t : ℕ) {v : ℕ} {k : Answer} (h : List Entry) (e : Ending)
    → ((n : ℕ) → cell K h ≡ SetTo n → v ≡ n) → k ≡ kept_of (last_call K t h).ran → Owes K t h e
    → IsLegal K limit (end_entry e t v k) h
owes_legal K limit t h EndValue f a o = (o.0, rw (f o.1.0 o.1.1) (value_legal K limit t o.1.0 h (last_call K t h).ran o.1.1 o.1.2), inl o.2)
owes_legal K limit t {k} h EndError f a o = (o.1.status_is, rw o.1.ran_is (error_kept o.0 k (last_call K t h).ran a o.1.ran_is, o.2), inl o.1.unpassed)
owes_legal K limit t h EndMemory f a o = (o.0.status_is, rw o.0.ran_is (o.0.unclaimed, o.1), inr refl)
owes_legal K limit t h EndDropped f a o = (o.status_is, not_holding t (cell K h) o.holds_is)
owes_legal K limit t h _ f a o = absurd o

-- a task in a poll does not wait
pub polls_not_waits : (K : Kind) (t u : ℕ) (h : List Entry) → (t == u) ≡ true → status K t h ≡ Polling → status K u h ≢ Waiting
polls_not_waits K t u h e s = let same = eqb-true t u e in let k = ap (λ v. status K v h) same in λ (w : status K u h ≡ Waiting). let z : ⊥ = cc in z

-- a task that is gone does not wait
pub not_waiting : (s : Status) → s ≡ Gone → s ≢ Waiting
not_waiting s a b = cc

-- a poll that ends Pending while another task holds leaves its task waiting
waits_at : (K : Kind) (t u : ℕ) (h : List Entry) → cell K h ≡ Held u → t ≢ u → holds t (cell K h) ≡ false → InStatus K t (End t Pending ∷ h) Waiting false
waits_at K t u h c n f = let d = ne_eqb u t (λ e. n (sym e)) in record { status_is = rw (eqb_self t, c, d) refl; holds_is = f }

opened_by : (b : Bool) → cond b true false ≡ b
opened_by b = grind arith

-- such an end opens the waker of the poll
opens_now : (K : Kind) (t : ℕ) {u w : ℕ} (v : ℕ) (h : List Entry) → cell K h ≡ Held u → t ≢ u → (last_call K t h).waker ≡ w → opens K v (End t Pending) h ≡ (w == v)
opens_now K t {u} {w} v h c n wk = let d = ne_eqb u t (λ e. n (sym e)) in rw (wk, c, d) (opened_by (w == v))

-- what stands before a step of t, which is polled with the waker w and whose init gave k
pub record Before (K : Kind) (limit t w : ℕ) (k : Answer) (c : SharedState) (h : List Entry) : Type 0 where
  pub run : IsRun K limit h
  pub shared : SharedFits K limit c h
  pub queue : QueueFits K c.listings h
  pub waker_is : (last_call K t h).waker ≡ w
  pub kept_is : k ≡ kept_of (last_call K t h).ran

module _ {K : Kind} {limit t w : ℕ} {k : Answer} {c : SharedState} {h : List Entry} (before : Before K limit t w k c h) (p : Place ℕ ℕ) where
  -- a step that records nothing
  pub moves_on : (c' : SharedState) (p' : Place ℕ ℕ) → SharedFits K limit c' h → QueueFits K c'.listings h → AtPlace K limit t c' h p'
      → ((u : ℕ) → t ≢ u → (b : Bool) → (is_take_at p ≡ true → b ≡ false) → SharedKeeps K limit c c' u h b)
      → c'.count + bit (is_counted_at p) ≡ c.count + bit (is_counted_at p') → (is_take_at p' ≡ true → c'.count ≡ 0)
      → (is_inside_at p' ≡ true → (is_inside_at p ≡ true) ⊎ (c.ready ≡ false))
      → ListMoves t (ticket_at p) (ticket_at p') c c' h
      → Goes K limit t w p c h (goes_to c' k p')
  moves_on c' p' shared' queue' own keeps count takes enters lists = record {
    run = before.run;
    shared = shared';
    queue = queue';
    own = own;
    waker_is = before.waker_is;
    kept_is = before.kept_is;
    others = λ u n. keeps_all K u h;
    keeps = keeps;
    count = count;
    made = refl;
    takes = takes;
    enters = enters;
    listings = lists;
    moments = λ a s. a;
  }

  -- a step that leaves all that is shared as it is
  pub stays : (p' : Place ℕ ℕ) → AtPlace K limit t c h p' → is_counted_at p ≡ is_counted_at p'
      → is_take_at p' ≡ false → (is_inside_at p' ≡ true → (is_inside_at p ≡ true) ⊎ (c.ready ≡ false))
      → (ticket_at p' ≡ ticket_at p) ⊎ ((ticket_at p' ≡ None) × (c.ready ≡ true))
      → Goes K limit t w p c h (goes_to c k p')
  stays p' own same take enters tickets =
      moves_on c p' before.shared before.queue own (λ u n b i. same_shared refl refl refl refl refl (λ x. x))
      (ap (λ b. c.count + bit b) same) (λ e. absurd (false≢true (sym take ∙ e))) enters
      (lists_stay refl (λ r. r) tickets)

  -- an entry that ends the call for good
  pub ends_by : (c' : SharedState) (e : Ending) → e ≢ EndPending → IsLegal K limit (end_entry e t c'.value k) h
      → holds t (cell K h) ≡ false → SharedFits K limit c' h → QueueFits K c'.listings h
      → ((u : ℕ) → t ≢ u → (b : Bool) → (is_take_at p ≡ true → b ≡ false) → SharedKeeps K limit c c' u h b)
      → c'.count + bit (is_counted_at p) ≡ c.count → ListMoves t (ticket_at p) None c c' (end_entry e t c'.value k ∷ h) → Goes K limit t w p c h (ends c' t k e)
  ends_by c' x good legal free shared' queue' keeps count lists =
      let e : Entry = end_entry x t c'.value k in
      let l : IsLast t e = is_last t c'.value k x good in
      record {
        run = (legal, before.run);
        shared = shared_at (l.cell_is (cell K h)) (l.left_is (answers_left K h)) shared';
        queue = quiet queue' l.hands l.replaces_not (λ w. l.shut K w h)
            (λ u is. not_waiting (status_after e (cell K h) (status K u h)) (l.gone (cell K h) (status K u h)))
            (λ y. sym (l.cell_is (cell K h)) ∙ y);
        own = record { status_is = rw (l.of t, eqb_self t) (l.gone (cell K h) (status K t h)); holds_is = ap (holds t) (l.cell_is (cell K h)) ∙ free };
        waker_is = rw (l.of t, eqb_self t, l.call_is (cell K h) (status K t h) (last_call K t h)) before.waker_is;
        kept_is = rw (l.of t, eqb_self t, l.call_is (cell K h) (status K t h) (last_call K t h)) before.kept_is;
        others = λ u n. legal_keeps K u e limit h (l.of u ∙ of_other t u n) legal l.owns;
        keeps = keeps;
        count = rw count (omega arith);
        made = l.made h;
        takes = λ e. absurd (false≢true e);
        enters = λ e. absurd (false≢true e);
        listings = lists;
        moments = λ a s. (s, a);
      }

  -- the last step of a call
  pub ends_so : (c' : SharedState) (e : Ending) → Owes K t h e → SharedFits K limit c' h → QueueFits K c'.listings h
      → ((u : ℕ) → t ≢ u → (b : Bool) → (is_take_at p ≡ true → b ≡ false) → SharedKeeps K limit c c' u h b)
      → c'.count + bit (is_counted_at p) ≡ c.count → ListMoves t (ticket_at p) None c c' (end_entry e t c'.value k ∷ h) → Goes K limit t w p c h (ends c' t k e)
  ends_so c' e owes shared' queue' keeps count lists =
      ends_by c' e (owes_lasts K t h e owes) (owes_legal K limit t h e shared'.value_is before.kept_is owes)
      (owes_holds K t h e owes) shared' queue' keeps count lists

  -- the last step of an uncounted call, which leaves all that is shared alone
  pub ends_plain : (e : Ending) → Owes K t h e → is_counted_at p ≡ false → ticket_at p ≡ None → Goes K limit t w p c h (ends c t k e)
  ends_plain e owes n none =
      ends_so c e owes before.shared before.queue (λ u d b i. same_shared refl refl refl refl refl (λ x. x))
      (rw n (omega arith))
      (lists_stay refl (λ r. r) (inl (sym none)))

  -- a poll that claims
  pub claims_so : (c' : SharedState) (by : Option ℕ) → cell K h ≡ Empty → Entered K t h
      → SharedFits K limit c' (Claim t ∷ h) → ((n : ℕ) → asks n c'.listings ≤ asks n c.listings) → HoldsBy limit c' by
      → c'.ready ≡ c.ready → c'.door ≡ c.door → c'.count ≡ c.count → is_counted_at p ≡ is_counted_at (AtRun by) → ListMoves t (ticket_at p) None c c' (Claim t ∷ h)
      → Goes K limit t w p c h (claims c' t k by)
  claims_so c' by empty entered shared' less own r d n same lists =
      let legal : IsLegal K limit (Claim t) h = (empty, entered.poll.status_is, entered.poll.ran_is, entered.poll.unpassed) in
      record {
        run = (legal, before.run);
        shared = shared';
        queue = entry_fits before.queue refl (λ n. let a = less n in omega arith) (λ e. absurd (held_not_empty t e));
        own = (
          record {
            status_is = rw (eqb_self t) entered.poll.status_is;
            ran_is = rw
                (eqb_self t) entered.poll.ran_is;
            holds_is = eqb_self t;
            unpassed = rw
                (eqb_self t) entered.poll.unpassed;
          },
          own,
        );
        waker_is = rw (eqb_self t) before.waker_is;
        kept_is = rw (eqb_self t) before.kept_is;
        others = λ u n. legal_keeps K u (Claim t) limit h (of_other t u n) legal refl;
        keeps = λ u n b i. free_shared (λ e. r ∙ e) d (ap (holds u) empty);
        count = rw (n, same) refl;
        made = refl;
        takes = λ e. absurd (false≢true e);
        enters = λ e. absurd (false≢true e);
        listings = lists;
        moments = λ a s. (s, a);
      }

  -- a poll that waits, with the ticket n
  pub waits_so : (c' : SharedState) (q n : ℕ) → OtherHolds K t h → Entered K t h → SharedFits K limit c' h
      → ((v : ℕ) → asks v c'.listings ≤ asks v c.listings + bit (w == v)) → (c.ready ≡ false → find_listing n c'.listings ≡ Some (Some w)) → c'.ready ≡ c.ready → c'.door ≡ Some q
      → ((u : ℕ) → t ≢ u → (b : Bool) → (is_take_at p ≡ true → b ≡ false) → SharedKeeps K limit c c' u h b)
      → c'.count ≡ c.count → is_counted_at p ≡ true → is_inside_at p ≡ true → ListMoves t (ticket_at p) (Some n) c c' (End t Pending ∷ h)
      → Goes K limit t w p c h (waits c' t k q (Some n))
  waits_so c' q n (u, apart, held) entered shared' less found same_ready door keeps m same inside lists =
      let legal : IsLegal K limit (End t Pending) h = (entered.poll.status_is, rw entered.poll.ran_is (u, apart, held), inl entered.poll.unpassed) in
      record {
        run = (legal, before.run);
        shared = shared_at refl refl shared';
        queue = entry_fits before.queue refl
            (λ v. let a = less v in rw (opens_now K t v h held apart before.waker_is) (omega arith))
            (λ e. absurd (held_not_empty u (sym held ∙ e)));
        own = (
          (
            waits_at K t u h held apart entered.poll.holds_is,
            door,
            (rw (eqb_self t) refl, λ r. inl (rw (eqb_self t, before.waker_is) (found (sym same_ready ∙ r)))),
          ),
          rw (eqb_self t)
              (ap kept_of entered.poll.ran_is),
        );
        waker_is = rw (eqb_self t) before.waker_is;
        kept_is = rw (eqb_self t) before.kept_is;
        others = λ u n. legal_keeps K u (End t Pending) limit h (of_other t u n) legal refl;
        keeps = keeps;
        count = rw (m, same) refl;
        made = refl;
        takes = λ e. absurd (false≢true e);
        enters = λ e. inl inside;
        listings = lists;
        moments = λ a s. (s, a);
      }
