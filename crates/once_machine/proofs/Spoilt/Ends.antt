-- Records in which a poll ends as it may not: none is a run.
use Rattle.std.proofs.Common.{◌≡◌, ◌≢◌, ◌≤◌, ℕ, true, ◌==◌, ⊎_elim, List, [], ◌∷◌, ◌++◌, sym, arith}
use Rattle.std.proofs.lemmas.Bool.{false≢true, eqb-true, cases_Bool}
use Rattle.once_machine.specs.Record.{Begin, Claim, End, Entry, Error, Fill, Free, Full, Made, Memory, Once, Pending, Ran, RanError, RanPending, RanValue, Value}
use Rattle.once_machine.specs.Tasks.{is_under_way, status}
use Rattle.once_machine.specs.Refusals.{OtherActs}
use Rattle.once_machine.specs.Inputs.{Make, Poll}
use Rattle.once_machine.proofs.Input.Headline.{every_run}
use Rattle.once_machine.proofs.History.Cells.{held_not_set, same_value}
use Rattle.once_machine.proofs.Rows.Order.{newest_first, steps}
use Rattle.once_machine.proofs.Spoilt.Records.{Spoilt}

four_not_five : ◌≡◌ {A = ℕ} 4 5 → ⊥
four_not_five e = omega arith

-- the value 4 is set, and a poll answers 5
answer_of_another_value : Spoilt Once 8 (newest_first (Made 1 ∷ Begin 1 7 ∷ Claim 1 ∷ Ran 1 (RanValue 4) ∷ Fill 1 4 [] ∷ End 1 (Value 4) ∷ Made 2 ∷ Begin 2 7 ∷ End 2 (Value 5) ∷ []))
answer_of_another_value = (every_run Once 8 (newest_first (Make 1 ∷ Poll 1 7 ∷ steps 6 1 (RanValue 4) ++ Make 2 ∷ Poll 2 7 ∷ [])) (omega arith), λ r. four_not_five (same_value 4 5 r.0.1))

-- a poll answers a value before any is set
answer_before_the_fill : Spoilt Once 8 (newest_first (Made 1 ∷ Made 2 ∷ Begin 1 5 ∷ Claim 1 ∷ Ran 1 (RanValue 4) ∷ Begin 2 7 ∷ End 2 (Value 4) ∷ []))
answer_before_the_fill = (every_run Once 8 (newest_first (Make 1 ∷ Make 2 ∷ Poll 1 5 ∷ steps 3 1 (RanValue 4) ++ Poll 2 7 ∷ [])) (omega arith), λ r. held_not_set 1 4 r.0.1)

-- a task that waits is answered another task's error
error_of_another : Spoilt Once 8 (newest_first (Made 1 ∷ Made 2 ∷ Begin 1 5 ∷ Claim 1 ∷ Ran 1 RanPending
    ∷ End 1 Pending ∷ Begin 2 7 ∷ Begin 1 5 ∷ Ran 1 (RanError 9) ∷ Free 1 [] ∷ End 1 (Error 9) ∷ End 2 (Error 9)
    ∷ []))
error_of_another = (every_run Once 8 (newest_first (Make 1 ∷ Make 2 ∷ Poll 1 5 ∷ steps 3 1 RanPending ++ Poll 2 7 ∷ Poll 1 5 ∷ steps 2 1 (RanError 9))) (omega arith), λ r. r.0.1)

-- a poll ends with its init's error, and did not free the cell
error_without_a_free : Spoilt Once 8 (newest_first (Made 1 ∷ Begin 1 7 ∷ Claim 1 ∷ Ran 1 (RanError 9) ∷ End 1 (Error 9) ∷ []))
error_without_a_free = (every_run Once 8 (newest_first (Make 1 ∷ Poll 1 7 ∷ steps 3 1 (RanError 9))) (omega arith), λ r. false≢true r.0.1.1)

-- the init gave the error 4, and the poll answers 5
error_of_another_number : Spoilt Once 8 (newest_first (Made 1 ∷ Made 2 ∷ Begin 1 5 ∷ Claim 1 ∷ Ran 1 RanPending
    ∷ End 1 Pending ∷ Begin 2 7 ∷ End 2 Pending ∷ Begin 1 5 ∷ Ran 1 (RanError 4) ∷ Free 1 (7 ∷ []) ∷ End 1 (Error 5)
    ∷ []))
error_of_another_number = (
  every_run Once 8 (newest_first (Make 1 ∷ Make 2 ∷ Poll 1 5 ∷ steps 3 1 RanPending ++ Poll 2 7
      ∷ steps 7 2 RanPending ++ Poll 1 5 ∷ steps 5 1 (RanError 4))) (omega arith),
  λ r. four_not_five (sym r.0.1.0),
)

-- a poll ends pending while nobody holds
pending_for_nobody : Spoilt Once 8 (newest_first (Made 1 ∷ Begin 1 7 ∷ End 1 Pending ∷ []))
pending_for_nobody = (every_run Once 8 (newest_first (Make 1 ∷ Poll 1 7 ∷ [])) (omega arith), λ r. let e = r.0.1.2 in let z : ⊥ = cc in z)

-- a poll whose init failed ends pending
pending_after_an_error : Spoilt Once 8 (newest_first (Made 1 ∷ Made 2 ∷ Begin 1 5 ∷ Claim 1 ∷ Ran 1 RanPending
    ∷ End 1 Pending ∷ Begin 2 7 ∷ End 2 Pending ∷ Begin 1 5 ∷ Ran 1 (RanError 9) ∷ Free 1 (7 ∷ []) ∷ End 1 Pending
    ∷ []))
pending_after_an_error =
    (every_run Once 8 (newest_first (Make 1 ∷ Make 2 ∷ Poll 1 5 ∷ steps 3 1 RanPending ++ Poll 2 7 ∷ steps 7 2 RanPending ++ Poll 1 5 ∷ steps 5 1 (RanError 9))) (omega arith), λ r. r.0.1)

-- one task polls alone
abbrev alone : List Entry
alone = newest_first (Made 1 ∷ Begin 1 7 ∷ [])

-- then no other task is in a call
other_idle : (u : ℕ) → 1 ≢ u → is_under_way (status Once u alone) ≡ true → ⊥
other_idle u n e = ⊎_elim (λ k. n (eqb-true 1 u k)) (λ k. false≢true (rw k at e)) (cases_Bool (1 == u))

-- and nobody holds
nobody_acts : OtherActs Once 1 alone → ⊥
nobody_acts o = ⊎_elim (λ h. let e = h.2 in let z : ⊥ = cc in z) (λ (h : (u : ℕ) × (1 ≢ u) × (is_under_way (status Once u alone) ≡ true)). other_idle h.0 h.1 h.2) o

-- and so memory is not refused
memory_for_nobody : Spoilt Once 8 (newest_first (Made 1 ∷ Begin 1 7 ∷ End 1 Memory ∷ []))
memory_for_nobody = (every_run Once 8 (newest_first (Make 1 ∷ Poll 1 7 ∷ [])) (omega arith), λ r. ⊎_elim nobody_acts (λ z. z) r.0.1.1.1)

-- memory is refused to a task that claimed
memory_for_a_holder : Spoilt Once 8 (newest_first (Made 1 ∷ Made 2 ∷ Begin 1 7 ∷ Begin 2 7 ∷ Claim 1 ∷ End 1 Memory ∷ []))
memory_for_a_holder = (every_run Once 8 (newest_first (Make 1 ∷ Make 2 ∷ Poll 1 7 ∷ Poll 2 7 ∷ steps 2 1 RanPending)) (omega arith), λ r. false≢true (sym r.0.1.0))

-- the place is full for one task, and two may wait
full_with_room : Spoilt Once 2 (newest_first (Made 1 ∷ Made 2 ∷ Begin 1 5 ∷ Claim 1 ∷ Ran 1 RanPending ∷ End 1 Pending ∷ Begin 2 7 ∷ End 2 Full ∷ []))
full_with_room = (
  every_run Once 2 (newest_first (Make 1 ∷ Make 2 ∷ Poll 1 5 ∷ steps 3 1 RanPending ++ Poll 2 7
      ∷ [])) (omega arith),
  λ r. ⊎_elim (λ (c : 2 ≤ 1). let z : ⊥ = omega arith in z) (λ z. z) r.0.1.2,
)

-- the place is full while the value is set
full_of_a_set_cell : Spoilt Once 1 (newest_first (Made 1 ∷ Made 2 ∷ Begin 1 5 ∷ Claim 1 ∷ Ran 1 (RanValue 4) ∷ Begin 2 7 ∷ Fill 1 4 [] ∷ End 2 Full ∷ []))
full_of_a_set_cell = (every_run Once 1 (newest_first (Make 1 ∷ Make 2 ∷ Poll 1 5 ∷ steps 3 1 (RanValue 4) ++ Poll 2 7 ∷ steps 2 1 (RanValue 4))) (omega arith), λ r. false≢true (sym r.0.1.3))

-- the place is full for a task that waited
full_for_a_waiting_task : Spoilt Once 1 (newest_first (Made 1 ∷ Made 2 ∷ Begin 1 5 ∷ Claim 1 ∷ Ran 1 RanPending ∷ End 1 Pending ∷ Begin 2 7 ∷ End 2 Pending ∷ Begin 2 7 ∷ End 2 Full ∷ []))
full_for_a_waiting_task = (
  every_run Once 1 (newest_first
      (Make 1 ∷ Make 2 ∷ Poll 1 5 ∷ steps 3 1 RanPending ++ Poll 2 7 ∷ steps 7 2 RanPending ++ Poll 2 7 ∷ []))
      (omega arith),
  λ r. let e = r.0.1.0 in let z : ⊥ = cc in z,
)
