-- The sections of a waiter: the load, the look and the listing.
use Rattle.std.proofs.Common.{◌≡◌, ℕ, Bool, true, false, cond, ◌⊎◌, inl, inr, List, [], ◌∷◌, Option, Some, None, refl, sym, ◌∙◌, arith, ◌||◌}
use Rattle.std.proofs.lemmas.Bool.{false≢true, or_parts}
use Rattle.once_machine.specs.Record.{Answer, Claim, End, Entry, Kind, Pending}
use Rattle.once_machine.specs.Cell.{cell}
use Rattle.once_machine.specs.Tasks.{Fresh, Status, Waiting, last_call}
use Rattle.once_machine.specs.Listings.{find_listing, is_waker, list_with, own_listing, ticket_for}
use Rattle.once_machine.specs.Word.{sees_by}
use Rattle.once_machine.specs.Refusals.{AtSome, MemoryFrom, OtherActs, OtherHolds, is_begin_of, moments_since}
use Rattle.once_machine.specs.Machine.{AtCountOut, AtLeave, AtList, AtLook, AtWaitLoad, EndMemory, EndValue, SharedState, Place, is_at_door, leave_place, seen_by}
use Rattle.once_machine.specs.Table.{after_load}
use Rattle.once_machine.specs.Machine.{outcome_of}
use Rattle.once_machine.proofs.Steps.{list_step, look_step}
use Rattle.once_machine.proofs.History.Others.{Met, MetHolder, since_now_holder}
use Rattle.once_machine.proofs.History.Cells.{empty_cell}
use Rattle.once_machine.proofs.Invariant.Facts.{AnyIn, AtPlace, Entered, HasTicket, is_counted_at, is_inside_at, refused_in, ticket_at}
use Rattle.once_machine.proofs.Place.Builders.{Before, Goes, claims_so, same_shared, stays, waits_so}
use Rattle.once_machine.proofs.Place.FitsAfter.{at_door, claim_fits, relisted_fits}
use Rattle.once_machine.proofs.Invariant.Turns.{lists_stay}
use Rattle.once_machine.proofs.Place.Relisted.{anew_asks, anew_lists, find_own, is_waker_found, lists_by, without_asks, without_lists}
use Rattle.once_machine.proofs.Place.Waits.{other_holds, owes_value}
use Rattle.once_machine.proofs.Place.Outcomes.{claims, goes_to, waits, claim_shared, listing_shared}

-- what holds since the Begin weakens
begin_by : (P Q : List Entry → Type 0) (moments : List (List Entry)) (b : Bool)
    → (AtSome P moments → AtSome Q moments) → AtSome P (cond b [] moments) → AtSome Q (cond b [] moments)
begin_by P Q moments true f x = absurd x
begin_by P Q moments false f x = f x

-- another task that held acted
pub since_weaken : (K : Kind) (t : ℕ) (h : List Entry) → MetHolder K t h → Met K t h
since_weaken K t [] m = m
since_weaken K t (e ∷ h) (inl o) = inl (inl o)
since_weaken K t (e ∷ h) (inr r) = inr (begin_by (OtherHolds K t) (OtherActs K t) (moments_since t h) (is_begin_of t e) (since_weaken K t h) r)

-- by what the task was at its Begin
memory_from : (K : Kind) (t : ℕ) (h : List Entry) (s : Status)
    → ((s ≡ Fresh) × ((last_call K t h).set_then ≡ false)) ⊎ (s ≡ Waiting) → MetHolder K t h → MemoryFrom K s t h
memory_from K t h Fresh (inl f) m = (f.1, since_weaken K t h m)
memory_from K t h Fresh (inr f) m = grind arith
memory_from K t h s f m = grind arith

-- a poll that met a holder may be refused memory
any_memory : (K : Kind) (t : ℕ) (h : List Entry) → AnyIn K t h → MetHolder K t h → MemoryFrom K (last_call K t h).began t h
any_memory K t h a m = memory_from K t h (last_call K t h).began a.from m

module _ {K : Kind} {limit t w : ℕ} {k : Answer} {c : SharedState} {h : List Entry} (before : Before K limit t w k c h) where
  -- the load
  pub load_goes : (ready : Bool) (q : ℕ) (n : Option ℕ) → c.ready ≡ ready → AtPlace K limit t c h (AtWaitLoad q n)
      → Goes K limit t w (AtWaitLoad q n) c h (outcome_of c t k [] (after_load ready q n))
  load_goes true q n r a =
      stays before (AtWaitLoad q n) (AtCountOut EndValue)
      (owes_value K t h a.0.entered (sym before.shared.ready_is ∙ r)) refl refl (λ e. inl refl) (inr (refl, r))
  load_goes false q n r a = stays before (AtWaitLoad q n) (AtLook q n) a refl refl (λ e. inl refl) (inl refl)

  -- a waiter claims under the lock, and its listing is taken out
  claims_head : (p : Place ℕ ℕ) (q : ℕ) → is_counted_at p ≡ true → c.ready ≡ false → (c.quick || c.head) ≡ false
      → Entered K t h → c.door ≡ Some q → Goes K limit t w p c h (claims (claim_shared c (ticket_at p)) t k (Some q))
  claims_head p q n r f e d =
      let c' : SharedState = claim_shared c (ticket_at p) in
      let empty = empty_cell (cell K h) (sym before.shared.ready_is ∙ r) (before.shared.held_is ∙ f) in
      let z = or_parts c.quick c.head f in
      claims_so before p c' (Some q) empty e
      (claim_fits before.shared r (rw z.0 refl) refl refl r (λ _. (q, d)) refl) (λ v. without_asks v (ticket_at p) c.listings)
      (record { quick_is = z.0; head_is = refl }, d) refl refl refl n (without_lists t (ticket_at p) c c' (Claim t ∷ h) refl (λ x. x))

  -- a waiter waits whose own listing has its waker
  waits_listed : {p : Place ℕ ℕ} {q : ℕ} {n : Option ℕ} → ticket_at p ≡ n → is_counted_at p ≡ true
      → is_inside_at p ≡ true → Entered K t h → c.door ≡ Some q → OtherHolds K t h
      → is_waker w (own_listing n c.listings) ≡ true → Goes K limit t w p c h (waits c t k q n)
  waits_listed {n = None} own cnt i e d o m = absurd (false≢true m)
  waits_listed {p = p} {q = q} {n = Some n} own cnt i e d o m = waits_so before p c q n o e before.shared
      (λ v. omega arith) (λ r. is_waker_found w (find_listing n c.listings) m) refl d (λ u m b j. same_shared refl refl refl refl refl (λ y. y)) refl cnt i
      (lists_stay refl (λ x. x) (inl (sym own)))

  -- a waiter is refused memory
  pub refused_at : {p : Place ℕ ℕ} {q : ℕ} {n : Option ℕ} → ticket_at p ≡ n → is_counted_at p ≡ true
      → is_inside_at p ≡ true → AnyIn K t h → c.door ≡ Some q → HasTicket K t c h n → MetHolder K t h
      → Goes K limit t w p c h (goes_to c k (leave_place q n EndMemory))
  refused_at {p = p} {q = q} {n = None} own cnt i a d f m =
      stays before p (AtCountOut EndMemory)
      (refused_in K t h a.entered, any_memory K t h a m) cnt refl (λ e. inl i) (inl (sym own))
  refused_at {p = p} {q = q} {n = Some n} own cnt i a d f m =
      stays before p (AtLeave q n EndMemory)
      ((a.entered, any_memory K t h a m), d, f.0, f.1) cnt refl (λ e. inl i) (inl (sym own))

  -- the look
  pub look_goes : (door ready taken there granted : Bool) (q : ℕ) (n : Option ℕ) → is_at_door q c.door ≡ door
      → c.ready ≡ ready → (c.quick || c.head) ≡ taken → is_waker w (own_listing n c.listings) ≡ there
      → AtPlace K limit t c h (AtLook q n)
      → Goes K limit t w (AtLook q n) c h (look_step (seen_by door (sees_by ready taken)) there granted c t w k q n)
  look_goes false ready taken there granted q n d r f m a = absurd (false≢true (sym d ∙ at_door q c.door a.1))
  look_goes true true taken there granted q n d r f m a =
      stays before (AtLook q n) (AtCountOut EndValue)
      (owes_value K t h a.0.entered (sym before.shared.ready_is ∙ r)) refl refl (λ e. inl refl) (inr (refl, r))
  look_goes true false false there granted q n d r f m a = claims_head (AtLook q n) q refl r f a.0.entered a.1
  look_goes true false true true granted q n d r f m a = waits_listed refl refl refl a.0.entered a.1 (other_holds K t c h before.shared.held_is a.0.entered.poll.holds_is f) m
  look_goes true false true false true q n d r f m a = let o = other_holds K t c h before.shared.held_is a.0.entered.poll.holds_is f in
      stays before (AtLook q n) (AtList q n w) (a.0, a.1, a.2, since_now_holder K t o.0 h o.1 o.2, before.waker_is) refl refl (λ e. inl refl) (inl refl)
  look_goes true false true false false q n d r f m a = let o = other_holds K t c h before.shared.held_is a.0.entered.poll.holds_is f in
      refused_at refl refl refl a.0 a.1 a.2 (since_now_holder K t o.0 h o.1 o.2)

  -- the listing
  pub list_goes : (door ready taken may : Bool) (q : ℕ) (n : Option ℕ) (v : ℕ) → is_at_door q c.door ≡ door
      → c.ready ≡ ready → (c.quick || c.head) ≡ taken → AtPlace K limit t c h (AtList q n v)
      → Goes K limit t w (AtList q n v) c h (list_step (seen_by door (sees_by ready taken)) may c t v k q n)
  list_goes false ready taken may q n v d r f a = absurd (false≢true (sym d ∙ at_door q c.door a.1))
  list_goes true true taken may q n v d r f a =
      stays before (AtList q n v) (AtCountOut EndValue)
      (owes_value K t h a.0.entered (sym before.shared.ready_is ∙ r)) refl refl (λ e. inl refl) (inr (refl, r))
  list_goes true false false may q n v d r f a = claims_head (AtList q n v) q refl r f a.0.entered a.1
  list_goes true false true true q n v d r f a =
      let m : ℕ = ticket_for n c.listings in
      let o = other_holds K t c h before.shared.held_is a.0.entered.poll.holds_is f in
      let same : v ≡ w = sym a.4 ∙ before.waker_is in
      waits_so before (AtList q n v) (listing_shared c m v) q m o a.0.entered (relisted_fits K limit c (list_with m v c.listings) h before.shared)
      (rw same (λ x. anew_asks x m w c.listings)) (λ r. rw same (find_own m w c.listings)) refl a.1
      (λ u x b j. same_shared refl refl refl refl refl
      (λ y. y)) refl refl refl
      (anew_lists t m v n c (End t Pending ∷ h) (lists_by K t n c h r a.2))
  list_goes true false true false q n v d r f a = refused_at refl refl refl a.0 a.1 a.2 a.3
