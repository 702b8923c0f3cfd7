-- Records in which no task counts as woken, though the cell is empty and a task waits. Some are runs: that some task was woken is more than that each entry may come.
use Rattle.std.proofs.Common.{◌≡◌, ◌≢◌, ℕ, true, false, inl, inr, List, [], ◌∷◌, ◌++◌, refl, sym, subst, arith}
use Rattle.std.proofs.lemmas.Bool.{false≢true, eqb-true}
use Rattle.once_machine.specs.Numbers.{member}
use Rattle.once_machine.specs.Record.{Begin, Claim, DropBegin, DropEnd, End, Entry, Error, Free, Made, Memory, Once, Pending, Ran, RanError, RanPending}
use Rattle.once_machine.specs.Tasks.{Gone, Unmade, Waiting, is_under_way, last_call, status}
use Rattle.once_machine.specs.Wakers.{CallsOne, IsOpen, handed_since}
use Rattle.once_machine.specs.Run.{AtEvery, IsRun}
use Rattle.once_machine.specs.Called.{IsCalled, SomebodyCalled, WaiterCalled, WaitsWoken}
use Rattle.once_machine.specs.Inputs.{Go, Input, Make, Poll}
use Rattle.once_machine.proofs.Input.Headline.{every_run}
use Rattle.once_machine.proofs.History.Cells.{held_not_empty}
use Rattle.once_machine.proofs.Rows.Order.{newest_first, run}
use Rattle.once_machine.proofs.Rows.Tasks.{by_three, not_called, not_waiting}

-- the first task holds and two wait, the oldest first
abbrev waiting : List Entry
waiting = Made 1 ∷ Made 2 ∷ Made 3 ∷ Begin 1 5 ∷ Claim 1 ∷ Ran 1 RanPending ∷ End 1 Pending ∷ Begin 2 7 ∷ End 2 Pending ∷ Begin 3 8 ∷ End 3 Pending ∷ []

abbrev waiting_inputs : List Input
waiting_inputs = Make 1 ∷ Make 2 ∷ Make 3 ∷ Poll 1 5 ∷ run 1 RanPending ++ Poll 2 7 ∷ run 2 RanPending ++ Poll 3 8 ∷ run 3 RanPending

-- it fails and wakes the second
abbrev called : List Entry
called = waiting ++ Begin 1 5 ∷ Ran 1 (RanError 9) ∷ Free 1 (7 ∷ []) ∷ End 1 (Error 9) ∷ []

abbrev called_inputs : List Input
called_inputs = waiting_inputs ++ Poll 1 5 ∷ run 1 (RanError 9)

-- the woken task is dropped, and nobody else is woken
abbrev lost : List Entry
lost = newest_first (called ++ DropBegin 2 ∷ DropEnd 2 ∷ [])

-- each entry may come
lost_run : IsRun Once 8 lost
lost_run = ((refl, λ e. held_not_empty 2 (sym e)), (tt, every_run Once 8 (newest_first called_inputs) (omega arith)))

-- the third waits and was not woken, and no other waits or is in a poll or a drop
lost_uncalled : (t : ℕ) → IsCalled Once t lost → ⊥
lost_uncalled = by_three (λ t. IsCalled Once t lost → ⊥) (not_called Once 1 lost Gone refl refl refl) (not_called Once 2 lost Gone refl refl refl) (λ k. false≢true k.1)
    (λ t a b c. not_called Once t lost Unmade (rw (a, b, c) refl) refl refl)

-- so the promise is broken
lost_nobody : AtEvery (SomebodyCalled Once) lost → ⊥
lost_nobody p = let c = p.0 refl 3 refl in lost_uncalled c.0 c.1

-- so is the one for when no poll or drop is under way
lost_idle : (t : ℕ) → is_under_way (status Once t lost) ≡ false
lost_idle = by_three (λ t. is_under_way (status Once t lost) ≡ false) refl refl refl (λ t a b c. rw (a, b, c) refl)

lost_waits_uncalled : (t : ℕ) → (status Once t lost ≡ Waiting) × (member (last_call Once t lost).waker (handed_since t lost) ≡ true) → ⊥
lost_waits_uncalled = by_three (λ t. (status Once t lost ≡ Waiting) × (member (last_call Once t lost).waker (handed_since t lost) ≡ true) → ⊥)
    (λ k. let e = k.0 in let z : ⊥ = cc in z) (λ k. let e = k.0 in let z : ⊥ = cc in z) (λ k. false≢true k.1)
    (λ t a b c k. not_waiting Once t lost Unmade (rw (a, b, c) refl) refl k.0)

-- the two facts of a task that was woken, of any history, so that none is computed
woken_facts : (t : ℕ) (h : List Entry) → WaitsWoken Once t h → (status Once t h ≡ Waiting) × (member (last_call Once t h).waker (handed_since t h) ≡ true)
woken_facts t h w = w

lost_waiter : WaiterCalled Once lost → ⊥
lost_waiter p = let c = p lost_idle refl 3 refl in lost_waits_uncalled c.0 (woken_facts c.0 lost c.1)

-- the woken task is refused memory, and nobody else is woken
abbrev lost_for_memory : List Entry
lost_for_memory = newest_first (waiting ++ Begin 2 6 ∷ Begin 1 5 ∷ Ran 1 (RanError 9) ∷ Free 1 (7 ∷ []) ∷ End 1 (Error 9) ∷ End 2 Memory ∷ [])

two_not_one : ◌≢◌ {A = ℕ} 2 1
two_not_one e = omega arith

-- each entry may come: another task held since the poll began
lost_for_memory_run : IsRun Once 8 lost_for_memory
lost_for_memory_run = ((refl, (refl, inr (inr (inl (1, two_not_one, refl)))), inl refl), every_run Once 8 (newest_first (waiting_inputs ++ Poll 2 6 ∷ Poll 1 5 ∷ run 1 (RanError 9))) (omega arith))

lost_for_memory_uncalled : (t : ℕ) → IsCalled Once t lost_for_memory → ⊥
lost_for_memory_uncalled =
    by_three (λ t. IsCalled Once t lost_for_memory → ⊥) (not_called Once 1 lost_for_memory Gone refl refl refl)
    (not_called Once 2 lost_for_memory Gone refl refl refl) (λ k. false≢true k.1)
    (λ t a b c. not_called Once t lost_for_memory Unmade (rw (a, b, c) refl) refl refl)

-- so the promise is broken
lost_for_memory_nobody : AtEvery (SomebodyCalled Once) lost_for_memory → ⊥
lost_for_memory_nobody p = let c = p.0 refl 3 refl in lost_for_memory_uncalled c.0 c.1

-- the second task polled again with another waker, and the failure hands out the older one, which nobody waits with
abbrev before_older : List Entry
before_older = newest_first (waiting ++ Begin 2 6 ∷ End 2 Pending ∷ Begin 1 5 ∷ Ran 1 (RanError 9) ∷ [])

abbrev older : List Entry
older = End 1 (Error 9) ∷ Free 1 (7 ∷ []) ∷ before_older

-- each entry may come: the older waker is still open
older_open : (w : ℕ) → member w (7 ∷ []) ≡ true → IsOpen Once w before_older
older_open w m = let same : 7 ≡ w = eqb-true 7 w (grind (arith, m)) in subst (λ v. IsOpen Once v before_older) same (omega arith)

older_called : CallsOne Once (7 ∷ []) before_older
older_called = record { one = omega arith; due = λ w d e. let z : ⊥ = cc in z; open_alone = older_open }

older_run : IsRun Once 8 older
older_run = (
  (refl, (refl, refl), inl refl),
  (
    (refl, tt, older_called),
    every_run Once 8
        (newest_first (waiting_inputs ++ Poll 2 6 ∷ run 2 RanPending ++ Poll 1 5 ∷ Go 1 (RanError 9) true ∷ []))
        (omega arith),
  ),
)

older_uncalled : (t : ℕ) → IsCalled Once t older → ⊥
older_uncalled = by_three (λ t. IsCalled Once t older → ⊥) (not_called Once 1 older Gone refl refl refl) (λ k. false≢true k.1) (λ k. false≢true k.1)
    (λ t a b c. not_called Once t older Unmade (rw (a, b, c) refl) refl refl)

-- so the promise is broken
older_nobody : AtEvery (SomebodyCalled Once) older → ⊥
older_nobody p = let c = p.0 refl 2 refl in older_uncalled c.0 c.1
