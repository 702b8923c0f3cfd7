-- The listings against the history.
use Rattle.std.proofs.Common.{◌≡◌, ◌≢◌, ◌≤◌, ◌<◌, ◌+◌, ℕ, true, false, List, [], ◌∷◌, Option, Some, None, length, refl, arith}
use Rattle.std.specs.Option.{option_to_list}
use Rattle.std.proofs.lemmas.Bool.{false≢true}
use Rattle.once_machine.specs.Numbers.{bit, member, times_in}
use Rattle.once_machine.specs.Record.{Entry, Kind, handed_by, is_of, is_replacing}
use Rattle.once_machine.specs.Cell.{Empty, cell, cell_after}
use Rattle.once_machine.specs.Tasks.{Waiting, status, status_after}
use Rattle.once_machine.specs.declared.waiters.Listing.{Listing}
use Rattle.once_machine.specs.Listings.{all_out, find_listing, first_waker}
use Rattle.once_machine.specs.Wakers.{CallsOne, HandsOut, IsDue, IsOpen, times_handed, times_opened, opens}
use Rattle.once_machine.proofs.Listing.Listings.{asks, asks_call, first_asks}
use Rattle.once_machine.proofs.Listing.AllOut.{all_due, all_once, all_times, member_times}

-- in an empty cell for which some task waits, some listing was woken
abbrev pub CalledAt : Kind → List (Listing ℕ) → List Entry → Type 0
CalledAt K xs h = cell K h ≡ Empty → (u : ℕ) → status K u h ≡ Waiting → (n : ℕ) × (find_listing n xs ≡ Some None)

-- each waker handed out and each that is listed was opened by a poll of its own
pub record QueueFits (K : Kind) (xs : List (Listing ℕ)) (h : List Entry) : Type 0 where
  pub counts : (w : ℕ) → times_handed w h + asks w xs ≤ times_opened K w h
  pub called : CalledAt K xs h

-- one more entry, which hands out what the list loses
pub entry_fits : {K : Kind} {xs ys : List (Listing ℕ)} {e : Entry} {h : List Entry} → QueueFits K xs h → is_replacing e ≡ false
    → ((w : ℕ) → times_in w (handed_by e) + asks w ys ≤ asks w xs + bit (opens K w e h)) → CalledAt K ys (e ∷ h) → QueueFits K ys (e ∷ h)
entry_fits q stays less called = record {
  counts = λ w. let a = q.counts w in let b = less w in rw stays (omega arith);
  called = called;
}

-- another list, and no entry
pub list_fits : (K : Kind) (xs ys : List (Listing ℕ)) (h : List Entry) → QueueFits K xs h
    → ((w : ℕ) → asks w ys ≤ asks w xs) → CalledAt K ys h → QueueFits K ys h
list_fits K xs ys h q less called = record {
  counts = λ w. let a = q.counts w in let b = less w in omega arith;
  called = called;
}

waits_before : (K : Kind) (u : ℕ) (e : Entry) (h : List Entry)
    → (is_of u e ≡ true → status_after e (cell K h) (status K u h) ≢ Waiting) → status K u (e ∷ h) ≡ Waiting
    → status K u h ≡ Waiting
waits_before K u e h not_waiting s = grind arith

-- a task that waits after an entry that makes no task wait did so before
pub waited : (K : Kind) (e : Entry) (h : List Entry)
    → ((t : ℕ) → is_of t e ≡ true → status_after e (cell K h) (status K t h) ≢ Waiting) → (u : ℕ)
    → status K u (e ∷ h) ≡ Waiting → status K u h ≡ Waiting
waited K e h n u s = waits_before K u e h (n u) s

-- an entry that hands out nothing, and after which its task does not wait
pub quiet : {K : Kind} {xs : List (Listing ℕ)} {e : Entry} {h : List Entry} → QueueFits K xs h → handed_by e ≡ []
    → is_replacing e ≡ false → ((w : ℕ) → opens K w e h ≡ false)
    → ((t : ℕ) → is_of t e ≡ true → status_after e (cell K h) (status K t h) ≢ Waiting)
    → (cell_after e (cell K h) ≡ Empty → cell K h ≡ Empty) → QueueFits K xs (e ∷ h)
quiet {K = K} {e = e} {h = h} q none stays shut not_waiting empty = entry_fits q stays (λ w. rw (none, shut w) (omega arith)) (λ c u s. q.called (empty c) u (waited K e h not_waiting u s))

-- if nobody waits, no listing need be woken
pub nobody_called : (K : Kind) (xs : List (Listing ℕ)) (h : List Entry) → ((u : ℕ) → status K u h ≢ Waiting) → CalledAt K xs h
nobody_called K xs h n c u s = absurd (n u s)

-- what is handed out no oftener than listings have it is open
pub open_by : (K : Kind) (w : ℕ) (X : List ℕ) (xs : List (Listing ℕ)) (h : List Entry) → QueueFits K xs h
    → ((k : ℕ) → times_in k X ≤ asks k xs) → member w X ≡ true → IsOpen K w h
open_by K w X xs h q less m = let a = member_times w X m in let b = less w in let c = q.counts w in omega arith

-- what a release with the value hands out meets what the cell asks of it
pub hands_out : (K : Kind) (xs : List (Listing ℕ)) (h : List Entry) → QueueFits K xs h → ((w : ℕ) → IsDue K w h → 0 < asks w xs) → HandsOut K (all_out xs []) h
hands_out K xs h q due = record {
  once = all_once xs [];
  due = λ w d. all_due w xs [] refl (due w d);
  open_alone = λ w. open_by K w (all_out xs []) xs h q (λ k. all_times k xs []);
}

one_by : (o : Option ℕ) → length (option_to_list o) ≤ 1
one_by (Some w) = omega arith
one_by None = omega arith

some_out : (o : Option ℕ) → option_to_list o ≡ [] → o ≡ None
some_out (Some w) e = grind arith
some_out None e = refl

-- and so does what one without a value hands out
pub calls_one : (K : Kind) (xs : List (Listing ℕ)) (h : List Entry) → QueueFits K xs h
    → ((w : ℕ) → IsDue K w h → 0 < asks w xs) → CallsOne K (option_to_list (first_waker xs)) h
calls_one K xs h q due = record {
  one = one_by (first_waker xs);
  due = λ w d e. let l = due w d in let z = first_asks w xs (some_out (first_waker xs) e) in absurd (omega arith);
  open_alone = λ w. open_by K w (option_to_list (first_waker xs)) xs h q (λ k. let a = asks_call k xs in omega arith);
}

-- if nobody waits, nothing need be handed out
pub hands_none : (K : Kind) (h : List Entry) → ((u : ℕ) → status K u h ≢ Waiting) → HandsOut K [] h
hands_none K h n = record { once = refl; due = λ w d. absurd (n d.0 d.1); open_alone = λ w m. absurd (false≢true m) }

pub calls_none : (K : Kind) (h : List Entry) → ((u : ℕ) → status K u h ≢ Waiting) → CallsOne K [] h
calls_none K h n = record { one = omega arith; due = λ w d. absurd (n d.0 d.1); open_alone = λ w m. absurd (false≢true m) }
