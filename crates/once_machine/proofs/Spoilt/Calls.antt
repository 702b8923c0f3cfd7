-- Records in which an entry comes at the wrong time of its task: none is a run.
use Rattle.std.proofs.Common.{◌≡◌, ℕ, true, [], ◌∷◌, ◌++◌, arith}
use Rattle.once_machine.specs.Record.{Begin, Claim, DropBegin, DropEnd, End, Fill, Free, Made, Once, OnceWith, Pending, Ran, RanError, RanPending, RanValue, Value}
use Rattle.once_machine.specs.Inputs.{Make, Poll, Drop, Go}
use Rattle.once_machine.proofs.Input.Headline.{every_run}
use Rattle.once_machine.proofs.History.Cells.{held_not_set, same_holder}
use Rattle.once_machine.proofs.Rows.Order.{newest_first, steps}
use Rattle.once_machine.proofs.Spoilt.Records.{Spoilt}

one_not_two : ◌≡◌ {A = ℕ} 1 2 → ⊥
one_not_two e = omega arith

-- a task is made twice
made_twice : Spoilt Once 8 (newest_first (Made 1 ∷ Made 1 ∷ []))
made_twice = (every_run Once 8 (newest_first (Make 1 ∷ [])) (omega arith), λ r. let e = r.0 in let z : ⊥ = cc in z)

-- a task that was not made polls
poll_of_nobody : Spoilt Once 8 (newest_first (Made 1 ∷ Begin 2 7 ∷ []))
poll_of_nobody = (every_run Once 8 (newest_first (Make 1 ∷ [])) (omega arith), λ r. r.0)

-- a task is dropped while its poll is under way
drop_under_way : Spoilt Once 8 (newest_first (Made 1 ∷ Begin 1 7 ∷ DropBegin 1 ∷ []))
drop_under_way = (every_run Once 8 (newest_first (Make 1 ∷ Poll 1 7 ∷ [])) (omega arith), λ r. r.0)

-- a drop ends that did not begin
drop_ends_alone : Spoilt Once 8 (newest_first (Made 1 ∷ Begin 1 7 ∷ DropEnd 1 ∷ []))
drop_ends_alone = (every_run Once 8 (newest_first (Make 1 ∷ Poll 1 7 ∷ [])) (omega arith), λ r. let e = r.0.0 in let z : ⊥ = cc in z)

-- a poll ends twice
ends_twice : Spoilt (OnceWith 4) 8 (newest_first (Made 1 ∷ Begin 1 7 ∷ End 1 (Value 4) ∷ End 1 (Value 4) ∷ []))
ends_twice = (every_run (OnceWith 4) 8 (newest_first (Make 1 ∷ Poll 1 7 ∷ Go 1 RanPending true ∷ [])) (omega arith), λ r. let e = r.0.0 in let z : ⊥ = cc in z)

-- a task claims the right before its first poll
claim_before_a_poll : Spoilt Once 8 (newest_first (Made 1 ∷ Claim 1 ∷ []))
claim_before_a_poll = (every_run Once 8 (newest_first (Make 1 ∷ [])) (omega arith), λ r. let e = r.0.1 in let z : ⊥ = cc in z)

-- a poll whose init failed claims again
claim_after_an_error : Spoilt Once 8 (newest_first (Made 1 ∷ Made 2 ∷ Begin 1 5 ∷ Claim 1 ∷ Ran 1 RanPending
    ∷ End 1 Pending ∷ Begin 2 7 ∷ End 2 Pending ∷ Begin 1 5 ∷ Ran 1 (RanError 9) ∷ Free 1 (7 ∷ []) ∷ Claim 1 ∷ []))
claim_after_an_error = (
  every_run Once 8 (newest_first (Make 1 ∷ Make 2 ∷ Poll 1 5 ∷ steps 3 1 RanPending ++ Poll 2 7
      ∷ steps 7 2 RanPending ++ Poll 1 5 ∷ steps 5 1 (RanError 9)))
      (omega arith),
  λ r. let e = r.0.2 in let z : ⊥ = cc in z,
)

-- an init is polled while its task rests
run_at_rest : Spoilt Once 8 (newest_first (Made 1 ∷ Begin 1 7 ∷ Claim 1 ∷ Ran 1 RanPending ∷ End 1 Pending ∷ Ran 1 (RanValue 4) ∷ []))
run_at_rest = (every_run Once 8 (newest_first (Make 1 ∷ Poll 1 7 ∷ steps 3 1 RanPending)) (omega arith), λ r. let e = r.0.1 in let z : ⊥ = cc in z)

-- an init is polled in the drop of its task
run_in_a_drop : Spoilt Once 8 (newest_first (Made 1 ∷ Begin 1 7 ∷ Claim 1 ∷ Ran 1 RanPending ∷ End 1 Pending ∷ DropBegin 1 ∷ Ran 1 (RanValue 4) ∷ []))
run_in_a_drop = (every_run Once 8 (newest_first (Make 1 ∷ Poll 1 7 ∷ steps 3 1 RanPending ++ Drop 1 ∷ [])) (omega arith), λ r. let e = r.0.1 in let z : ⊥ = cc in z)

-- a task that does not hold frees the cell in its drop
free_without_the_right : Spoilt Once 8 (newest_first (Made 1 ∷ Made 2 ∷ Begin 1 5 ∷ Claim 1 ∷ Ran 1 RanPending ∷ End 1 Pending ∷ Begin 2 7 ∷ End 2 Pending ∷ DropBegin 2 ∷ Free 2 (7 ∷ []) ∷ []))
free_without_the_right =
    (every_run Once 8 (newest_first (Make 1 ∷ Make 2 ∷ Poll 1 5 ∷ steps 3 1 RanPending ++ Poll 2 7 ∷ steps 7 2 RanPending ++ Drop 2 ∷ [])) (omega arith), λ r. one_not_two (same_holder 1 2 r.0.0))

-- a poll frees the cell, and its init was not polled
free_without_a_run : Spoilt Once 8 (newest_first (Made 1 ∷ Begin 1 7 ∷ Claim 1 ∷ Free 1 [] ∷ []))
free_without_a_run = (every_run Once 8 (newest_first (Make 1 ∷ Poll 1 7 ∷ steps 2 1 RanPending)) (omega arith), λ r. r.0.1)

-- a task that rests frees the cell
free_at_rest : Spoilt Once 8 (newest_first (Made 1 ∷ Begin 1 7 ∷ Claim 1 ∷ Ran 1 RanPending ∷ End 1 Pending ∷ Free 1 [] ∷ []))
free_at_rest = (every_run Once 8 (newest_first (Make 1 ∷ Poll 1 7 ∷ steps 3 1 RanPending)) (omega arith), λ r. r.0.1)

-- the cell is filled twice
filled_twice : Spoilt Once 8 (newest_first (Made 1 ∷ Begin 1 7 ∷ Claim 1 ∷ Ran 1 (RanValue 4) ∷ Fill 1 4 [] ∷ Fill 1 4 [] ∷ []))
filled_twice = (every_run Once 8 (newest_first (Make 1 ∷ Poll 1 7 ∷ steps 5 1 (RanValue 4))) (omega arith), λ r. let e = r.0.0 in let z : ⊥ = cc in z)

-- a poll ends with its init's value before the fill
value_before_the_fill : Spoilt Once 8 (newest_first (Made 1 ∷ Begin 1 7 ∷ Claim 1 ∷ Ran 1 (RanValue 4) ∷ End 1 (Value 4) ∷ []))
value_before_the_fill = (every_run Once 8 (newest_first (Make 1 ∷ Poll 1 7 ∷ steps 3 1 (RanValue 4))) (omega arith), λ r. held_not_set 1 4 r.0.1.1)

-- a task that claimed ends its poll pending, and its init was not polled
claimed_and_idle : Spoilt Once 8 (newest_first (Made 1 ∷ Begin 1 7 ∷ Claim 1 ∷ End 1 Pending ∷ []))
claimed_and_idle = (every_run Once 8 (newest_first (Make 1 ∷ Poll 1 7 ∷ steps 2 1 RanPending)) (omega arith), λ r. r.0.1.1 (same_holder 1 r.0.1.0 r.0.1.2))
