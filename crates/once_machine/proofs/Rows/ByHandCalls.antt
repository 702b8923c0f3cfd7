-- A row in which the turn is passed on, by hand: it is a run, and at every moment at which the cell is empty and a task waits, some task was woken.
use Rattle.std.proofs.Common.{◌≡◌, ◌≢◌, ℕ, true, false, ◌==◌, inl, inr, List, [], ◌∷◌, refl, sym, subst, arith}
use Rattle.std.proofs.lemmas.Bool.{eqb-true}
use Rattle.once_machine.specs.Numbers.{member}
use Rattle.once_machine.specs.Record.{Begin, Claim, DropBegin, DropEnd, End, Entry, Error, Free, Made, Once, Pass, Pending, Ran, RanError, RanPending, RanValue}
use Rattle.once_machine.specs.Cell.{Cell, Empty, Held}
use Rattle.once_machine.specs.Tasks.{Gone, Polling, Unmade, Waiting, status}
use Rattle.once_machine.specs.Wakers.{CallsOne, IsOpen}
use Rattle.once_machine.specs.Crowd.{is_waiting}
use Rattle.once_machine.specs.Run.{AtEvery, IsRun}
use Rattle.once_machine.specs.Called.{SomebodyCalled}
use Rattle.once_machine.proofs.History.Cells.{empty_not_set, held_not_empty}
use Rattle.once_machine.proofs.Rows.Order.{newest_first}
use Rattle.once_machine.proofs.Rows.Tasks.{by_three, not_waiting}
use Rattle.once_machine.proofs.Rows.Passes.{called_waiter_leaves_record}
use Rattle.once_machine.proofs.Rows.ByHand.{Covers, may_hand, two_not_one}

-- the first task polls alone
abbrev alone : List Entry
alone = newest_first (Made 1 ∷ Made 2 ∷ Made 3 ∷ Begin 1 5 ∷ [])

-- it holds, and two others wait
abbrev waiting : List Entry
waiting = End 3 Pending ∷ Begin 3 8 ∷ End 2 Pending ∷ Begin 2 7 ∷ End 1 Pending ∷ Ran 1 RanPending ∷ Claim 1 ∷ alone

-- its init failed
abbrev failing : List Entry
failing = Ran 1 (RanError 9) ∷ Begin 1 5 ∷ waiting

-- it woke the second, which is dropped
abbrev dropping : List Entry
dropping = DropBegin 2 ∷ End 1 (Error 9) ∷ Free 1 (7 ∷ []) ∷ failing

-- the second woke the third, which makes the value
abbrev filling : List Entry
filling = Ran 3 (RanValue 4) ∷ Claim 3 ∷ Begin 3 8 ∷ DropEnd 2 ∷ Pass 2 (8 ∷ []) ∷ dropping

three_not_one : ◌≢◌ {A = ℕ} 3 1
three_not_one e = omega arith

-- each entry may come
waiting_run : IsRun Once 8 waiting
waiting_run = (
  (refl, (1, three_not_one, refl), inl refl),
  (
    tt,
    (
      (refl, (1, two_not_one, refl), inl refl),
      (
        tt,
        (
          (refl, refl, inl refl),
          (
            (refl, refl, refl, tt),
            ((refl, refl, refl, refl), (tt, (refl, (refl, (refl, tt))))),
          ),
        ),
      ),
    ),
  ),
)

-- the waker that the failure hands out is open
seven_open : (w : ℕ) → member w (7 ∷ []) ≡ true → IsOpen Once w failing
seven_open w m = let same : 7 ≡ w = eqb-true 7 w (grind (arith, m)) in subst (λ v. IsOpen Once v failing) same (omega arith)

-- and it hands out one if one is due
calls_one : CallsOne Once (7 ∷ []) failing
calls_one = record { one = omega arith; due = λ w d e. let z : ⊥ = cc in z; open_alone = seven_open }

dropping_run : IsRun Once 8 dropping
dropping_run = (tt, ((refl, (refl, refl), inl refl), ((refl, tt, calls_one), ((refl, refl, refl, tt), (tt, waiting_run)))))

-- the second passes its turn on to a waker that is open
filling_run : IsRun Once 8 filling
filling_run = ((refl, refl, refl, tt), ((refl, refl, refl, refl), (tt, ((refl, λ e. held_not_empty 2 (sym e)), ((refl, tt, refl, (8, refl, omega arith)), dropping_run)))))

-- at the fill nobody waits
nobody_covers : (t : ℕ) → Covers Once [] filling t
nobody_covers = by_three (λ t. Covers Once [] filling t)
    (λ w. absurd (not_waiting Once 1 filling Gone refl refl w)) (λ w. absurd (not_waiting Once 2 filling Gone refl refl w)) (λ w. absurd (not_waiting Once 3 filling Polling refl refl w))
    (λ t a b c w. absurd (not_waiting Once t filling Unmade (rw (a, b, c) refl) refl w))

called_waiter_leaves_by_hand : IsRun Once 8 called_waiter_leaves_record
called_waiter_leaves_by_hand = ((refl, (refl, refl), inl refl), ((refl, refl, refl, may_hand Once filling nobody_covers), filling_run))

-- if none of the three waits, and no other was made, nobody does
nobody : (h : List Entry) → is_waiting (status Once 1 h) ≡ false → is_waiting (status Once 2 h) ≡ false → is_waiting (status Once 3 h) ≡ false
    → ((u : ℕ) → (1 == u) ≡ false → (2 == u) ≡ false → (3 == u) ≡ false → status Once u h ≡ Unmade) → (u : ℕ) → status Once u h ≡ Waiting → ⊥
nobody h i j k d =
    by_three (λ u. status Once u h ≡ Waiting → ⊥) (not_waiting Once 1 h (status Once 1 h) refl i) (not_waiting Once 2 h (status Once 2 h) refl j) (not_waiting Once 3 h (status Once 3 h) refl k)
    (λ u x y z. not_waiting Once u h Unmade (d u x y z) refl)

-- before the claim nobody waits
alone_moments : AtEvery (SomebodyCalled Once) alone
alone_moments = (
  λ e u w. absurd (nobody alone refl refl refl (λ v a b c. rw (a, b, c) refl) u w),
  (
    λ e u w. absurd (nobody (Made 3 ∷ Made 2 ∷ Made 1 ∷ []) refl refl refl (λ v a b c. rw (a, b, c) refl) u w),
    (
      λ e u w. absurd (nobody (Made 2 ∷ Made 1 ∷ []) refl refl refl (λ v a b c. rw (a, b) refl) u w),
      (
        λ e u w. absurd (nobody (Made 1 ∷ []) refl refl refl (λ v a b c. rw a refl) u w),
        λ e u w. absurd (nobody [] refl refl refl (λ v a b c. refl) u w),
      ),
    ),
  ),
)

-- while a task holds nothing is promised
held_by : (t : ℕ) {A : Type 0} → ◌≡◌ {A = Cell} (Held t) Empty → A
held_by t e = absurd (held_not_empty t e)

failing_moments : AtEvery (SomebodyCalled Once) failing
failing_moments = (held_by 1, (held_by 1, (held_by 1, (held_by 1, (held_by 1, (held_by 1, (held_by 1, (held_by 1, (held_by 1, alone_moments)))))))))

-- then the second counts as woken, at last in its drop
dropping_moments : AtEvery (SomebodyCalled Once) dropping
dropping_moments = (
  λ e u w. (2, (inr (record { under_way = refl; began = refl; unclaimed = refl; unpassed = refl }), refl)),
  (λ e u w. (2, (inl refl, refl)), (λ e u w. (2, (inl refl, refl)), failing_moments)),
)

-- and from its Pass on the third, until it claims
filling_moments : AtEvery (SomebodyCalled Once) filling
filling_moments = (
  held_by 3,
  (
    held_by 3,
    (
      λ e u w. (3, (inr (record { under_way = refl; began = refl; unclaimed = refl; unpassed = refl }), refl)),
      (λ e u w. (3, (inl refl, refl)), (λ e u w. (3, (inl refl, refl)), dropping_moments)),
    ),
  ),
)

-- so the promise is kept at every moment
called_waiter_leaves_moments : AtEvery (SomebodyCalled Once) called_waiter_leaves_record
called_waiter_leaves_moments = (λ e. absurd (empty_not_set 4 (sym e)), (λ e. absurd (empty_not_set 4 (sym e)), filling_moments))
