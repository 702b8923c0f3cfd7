-- Without an owner's call the queue 1 is the only one that is ever entered, and a set cell lists nobody.
use Rattle.std.proofs.Common.{◌≡◌, ℕ, Bool, true, false, ◌⊎◌, inl, inr, ⊎_elim, List, [], Option, Some, None, sym, ap, ◌∙◌}
use Rattle.once_machine.specs.declared.waiters.Listing.{Listing}
use Rattle.once_machine.specs.Listings.{left_list, list_without, take_out}
use Rattle.once_machine.specs.Machine.{AtLeave, AtList, AtLook, AtPut, AtRelease, AtRun, AtWaitLoad, Ending, Finished, Place, Resting, SharedState, Step}
use Rattle.once_machine.specs.Machine.{UnderWay, leave_place, place_of_poll, release_place}
use Rattle.once_machine.proofs.History.Cells.{none_some}
use Rattle.once_machine.proofs.Invariant.Listed.{same_some}

-- the listings and the queues that were made: the first queue is number 1, and others are put in a set cell alone
pub record OneQueue (c : SharedState) : Type 0 where
  pub set_empty : c.ready ≡ true → c.listings ≡ []
  pub bare : c.door ≡ None → c.listings ≡ []
  pub first : c.ready ≡ false → ((c.queues ≡ 0) × (c.door ≡ None)) ⊎ ((c.queues ≡ 1) × (c.door ≡ Some 1))
  pub unput : c.queues ≡ 0 → c.door ≡ None

-- a holder under the lock holds by the queue 1
abbrev pub HoldsByFirst : Option ℕ → Type 0
HoldsByFirst None = Unit {0}
HoldsByFirst (Some q) = q ≡ 1

-- a task that enters a section, or will, enters the queue 1; one that counts itself in may still find its queue gone
abbrev pub EntersFirstAt : Place ℕ ℕ → Type 0
EntersFirstAt (AtWaitLoad q n) = q ≡ 1
EntersFirstAt (AtLook q n) = q ≡ 1
EntersFirstAt (AtList q n v) = q ≡ 1
EntersFirstAt (AtRun by) = HoldsByFirst by
EntersFirstAt (AtPut by) = HoldsByFirst by
EntersFirstAt (AtRelease q e) = q ≡ 1
EntersFirstAt (AtLeave q n e) = q ≡ 1
EntersFirstAt _ = Unit {0}

-- the same of a step; a task at rest is where its next poll goes on
abbrev pub EntersFirst : Step ℕ ℕ → Type 0
EntersFirst (Resting r) = EntersFirstAt (place_of_poll r)
EntersFirst (UnderWay p) = EntersFirstAt p
EntersFirst Finished = Unit {0}

-- before the value is set the queue at the door is the first
pub door_first : (c : SharedState) (q : ℕ) → OneQueue c → c.ready ≡ false → c.door ≡ Some q → q ≡ 1
door_first c q f r d = ⊎_elim (λ a. absurd (none_some q (sym a.1 ∙ d))) (λ a. same_some q 1 (sym d ∙ a.1)) (f.first r)

-- a task that gives the right back enters the first
pub release_first : (by : Option ℕ) (e : Ending) → HoldsByFirst by → EntersFirstAt (release_place by e)
release_first None e f = tt
release_first (Some q) e f = f

-- and so does one that leaves
pub leave_first : (q : ℕ) (n : Option ℕ) (e : Ending) → q ≡ 1 → EntersFirstAt (leave_place q n e)
leave_first q None e f = tt
leave_first q (Some n) e f = f

-- an empty list stays empty after a claim
pub without_none : (n : Option ℕ) (xs : List (Listing ℕ)) → xs ≡ [] → list_without n xs ≡ []
without_none None xs e = e
without_none (Some n) xs e = ap (take_out n) e

-- and after a task that leaves
pub left_none : (p : Bool) (n : ℕ) (xs : List (Listing ℕ)) → xs ≡ [] → left_list p n xs ≡ []
left_none true n xs e = ap (left_list true n) e
left_none false n xs e = ap (left_list false n) e

-- a step that leaves the ready flag, the door and the number of queues alone, and lists nobody in an empty list
pub still_one : (c c' : SharedState) → OneQueue c → c'.ready ≡ c.ready → c'.door ≡ c.door → c'.queues ≡ c.queues → (c.listings ≡ [] → c'.listings ≡ []) → OneQueue c'
still_one c c' f r d q l = record {
  set_empty = λ e. l (f.set_empty (sym r ∙ e));
  bare = λ e. l (f.bare (sym d ∙ e));
  first = λ e. ⊎_elim (λ a. inl (q ∙ a.0, d ∙ a.1)) (λ a. inr (q ∙ a.0, d ∙ a.1)) (f.first (sym r ∙ e));
  unput = λ e. d ∙ f.unput (sym q ∙ e);
}
