-- What the other tasks tell of the listings.
use Rattle.std.proofs.Common.{◌≡◌, ◌≢◌, ◌<◌, ℕ, true, false, List, Option, Some, None, ⊎_elim, refl, sym, ap, ◌∙◌, subst, arith}
use Rattle.std.proofs.lemmas.Bool.{false≢true}
use Rattle.once_machine.specs.Numbers.{member}
use Rattle.once_machine.specs.Record.{Entry, Kind}
use Rattle.once_machine.specs.Tasks.{Waiting, last_call, status}
use Rattle.once_machine.specs.Listings.{find_listing}
use Rattle.once_machine.specs.Wakers.{IsDue, handed_since}
use Rattle.once_machine.specs.Machine.{Finished, SharedState, Rest, RestRun, RestStart, RestWait, Resting, Step, Task, UnderWay, World, step_of}
use Rattle.once_machine.proofs.Listing.Listings.{asks, asks_found}
use Rattle.once_machine.proofs.Invariant.Facts.{AtRest, AtStep, IsListed, RestsOn, ticket_of}
use Rattle.once_machine.proofs.Invariant.Fits.{Fits, StandsFor}
use Rattle.once_machine.proofs.Invariant.Turns.{ticketed}
use Rattle.once_machine.proofs.Invariant.Around.{no_door, no_wait, place_acts}

-- what the step of t, whose ticket is k, may know of the listings
pub record AroundList (K : Kind) (t : ℕ) (k : Option ℕ) (c : SharedState) (h : List Entry) : Type 0 where
  pub listed : (u : ℕ) → status K u h ≡ Waiting → (n : ℕ) × (t ≢ u → k ≡ Some n → ⊥) × ((last_call K u h).listed ≡ (last_call K u h).waker) × IsListed K u c h n
  pub empty : c.ready ≡ false → c.door ≡ None → (n : ℕ) (o : Option ℕ) → find_listing n c.listings ≡ Some o → ⊥

-- while the value is not set, a listing has the waker that is due
pub due_asks : (K : Kind) (t : ℕ) (k : Option ℕ) (c : SharedState) (h : List Entry) → c.ready ≡ false
    → AroundList K t k c h → (w : ℕ) → IsDue K w h → 0 < asks w c.listings
due_asks K t k c h r a w d =
    let l = a.listed d.0 d.1 in
    ⊎_elim (λ f. asks_found l.0 w c.listings (subst (λ v. find_listing l.0 c.listings ≡ Some (Some v)) (l.2 ∙ d.2) f))
    (λ f. absurd (false≢true (sym d.3 ∙ subst (λ v. member v (handed_since d.0 h) ≡ true) (l.2 ∙ d.2) f.1))) (l.3 r)

-- the ticket by which u rests, with its listing
abbrev RestsBy : Kind → ℕ → SharedState → List Entry → Option ℕ → Type 0
RestsBy K u c h k = (n : ℕ) × (k ≡ Some n) × ((last_call K u h).listed ≡ (last_call K u h).waker) × IsListed K u c h n

ticket_rests : (K : Kind) (u : ℕ) (c : SharedState) (h : List Entry) (k : Option ℕ) → RestsOn K u c h k → RestsBy K u c h k
ticket_rests K u c h None a = absurd a
ticket_rests K u c h (Some n) a = (n, refl, a.0, a.1)

-- a task at rest that waits has a ticket
rests_at : (K : Kind) (limit u : ℕ) (c : SharedState) (h : List Entry) (r : Rest ℕ) → AtRest K limit u c h r
    → status K u h ≡ Waiting → RestsBy K u c h (ticket_of (Resting r))
rests_at K limit u c h RestStart a s = grind (arith, a.status_is)
rests_at K limit u c h (RestWait q k) a s = ticket_rests K u c h k a.2
rests_at K limit u c h (RestRun by) a s = grind (arith, a.0.status_is)

-- and no other waits
rests_in : (K : Kind) (limit u : ℕ) (c : SharedState) (h : List Entry) (x : Step ℕ ℕ) → AtStep K limit u c h x
    → status K u h ≡ Waiting → RestsBy K u c h (ticket_of x)
rests_in K limit u c h (Resting r) a s = rests_at K limit u c h r a.0 s
rests_in K limit u c h (UnderWay p) a s = absurd (no_wait (place_acts K limit u c h p a) s)
rests_in K limit u c h Finished a s = grind (arith, a.status_is)

stands_rests : (K : Kind) (limit u : ℕ) (c : SharedState) (h : List Entry) (o : Option Task)
    → StandsFor K limit u c h o → status K u h ≡ Waiting → RestsBy K u c h (ticket_of (step_of o))
stands_rests K limit u c h None a s = grind (arith, a.0.status_is)
stands_rests K limit u c h (Some x) a s = rests_in K limit u c h x.step a.step s

-- all that a step may know of the listings holds
pub around_list : (K : Kind) (limit t : ℕ) (x : Task) (w : World) → Fits K limit w → w.tasks t ≡ Some x → AroundList K t (ticket_of x.step) w.shared w.history
around_list K limit t x w f found = record {
  listed = λ u s. let l = stands_rests K limit u w.shared w.history (w.tasks u) (f.tasks u) s in
      (l.0, (λ d k. d (f.single t u l.0 (ap (λ o. ticket_of (step_of o)) found ∙ k) l.1)), l.2, l.3);
  empty = λ r d n o e. let v = f.owned r n o e in no_door w.shared d (ticketed f v.0 v.1).door;
}
