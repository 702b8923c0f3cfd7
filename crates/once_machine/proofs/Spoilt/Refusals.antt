-- Records in which a poll is refused as it may not be: none is a run.
use Rattle.std.proofs.Common.{◌≤◌, ⊎_elim, [], ◌∷◌, ◌++◌, sym, arith}
use Rattle.std.proofs.lemmas.Bool.{false≢true}
use Rattle.once_machine.specs.Record.{Begin, Claim, DropBegin, DropEnd, End, Free, Full, Made, Memory, Once, OnceWith, Pending, Ran, RanPending, RanValue}
use Rattle.once_machine.specs.Inputs.{Make, Poll, Drop}
use Rattle.once_machine.proofs.Input.Headline.{every_run}
use Rattle.once_machine.proofs.Rows.Order.{newest_first, steps}
use Rattle.once_machine.proofs.Spoilt.Records.{Spoilt}

-- memory is refused to a poll that began when the value was set
memory_where_set : Spoilt (OnceWith 4) 8 (newest_first (Made 1 ∷ Made 2 ∷ Begin 1 5 ∷ Begin 2 7 ∷ End 2 Memory ∷ []))
memory_where_set = (every_run (OnceWith 4) 8 (newest_first (Make 1 ∷ Make 2 ∷ Poll 1 5 ∷ Poll 2 7 ∷ [])) (omega arith), λ r. false≢true (sym r.0.1.1.0))

-- memory is refused to a task that waited, while another is in a poll and nobody holds
memory_for_a_woken_task : Spoilt Once 8 (newest_first (Made 1 ∷ Made 2 ∷ Made 3 ∷ Begin 1 5 ∷ Claim 1
    ∷ Ran 1 RanPending ∷ End 1 Pending ∷ Begin 2 7 ∷ End 2 Pending ∷ DropBegin 1 ∷ Free 1 (7 ∷ []) ∷ DropEnd 1
    ∷ Begin 3 8 ∷ Begin 2 7 ∷ End 2 Memory ∷ []))
memory_for_a_woken_task = (
  every_run Once 8 (newest_first
      (Make 1 ∷ Make 2 ∷ Make 3 ∷ Poll 1 5 ∷ steps 3 1 RanPending ++ Poll 2 7 ∷ steps 7 2 RanPending ++ Drop 1
      ∷ steps 5 1 RanPending ++ Poll 3 8 ∷ Poll 2 7 ∷ [])) (omega arith),
  λ r. ⊎_elim
      (λ o. let e = o.2 in let z : ⊥ = cc in z) (λ z. z) r.0.1.1,
)

-- memory is refused to a task that holds from an earlier poll
memory_for_an_old_holder : Spoilt Once 8 (newest_first (Made 1 ∷ Made 2 ∷ Begin 1 5 ∷ Claim 1 ∷ Ran 1 RanPending ∷ End 1 Pending ∷ Begin 2 7 ∷ Begin 1 5 ∷ End 1 Memory ∷ []))
memory_for_an_old_holder = (every_run Once 8 (newest_first (Make 1 ∷ Make 2 ∷ Poll 1 5 ∷ steps 3 1 RanPending ++ Poll 2 7 ∷ Poll 1 5 ∷ [])) (omega arith), λ r. r.0.1.1)

-- memory is refused after the init was polled
memory_after_a_run : Spoilt Once 8 (newest_first (Made 1 ∷ Made 2 ∷ Begin 2 7 ∷ Begin 1 5 ∷ Claim 1 ∷ Ran 1 (RanValue 4) ∷ End 1 Memory ∷ []))
memory_after_a_run = (every_run Once 8 (newest_first (Make 1 ∷ Make 2 ∷ Poll 2 7 ∷ Poll 1 5 ∷ steps 3 1 (RanValue 4))) (omega arith), λ r. r.0.1)

-- another task held, but was gone when the poll began
memory_for_one_long_gone : Spoilt Once 8 (newest_first (Made 1 ∷ Made 2 ∷ Made 3 ∷ Begin 1 5 ∷ Claim 1
    ∷ Ran 1 RanPending ∷ End 1 Pending ∷ Begin 2 7 ∷ End 2 Pending ∷ DropBegin 1 ∷ Free 1 (7 ∷ []) ∷ DropEnd 1
    ∷ Begin 2 7 ∷ End 2 Memory ∷ []))
memory_for_one_long_gone = (
  every_run Once 8 (newest_first
      (Make 1 ∷ Make 2 ∷ Make 3 ∷ Poll 1 5 ∷ steps 3 1 RanPending ++ Poll 2 7 ∷ steps 7 2 RanPending ++ Drop 1
      ∷ steps 5 1 RanPending ++ Poll 2 7 ∷ [])) (omega arith),
  λ r. ⊎_elim (λ o. let e = o.2 in let z : ⊥ = cc in z)
      (λ z. z) r.0.1.1,
)

-- two others were about, but one was gone when the poll began
full_for_one_long_gone : Spoilt Once 2 (newest_first (Made 1 ∷ Made 2 ∷ Made 3 ∷ Begin 1 5 ∷ Claim 1
    ∷ Ran 1 RanPending ∷ End 1 Pending ∷ Begin 2 7 ∷ End 2 Pending ∷ DropBegin 2 ∷ DropEnd 2 ∷ Begin 3 8 ∷ End 3 Full
    ∷ []))
full_for_one_long_gone = (
  every_run Once 2 (newest_first
      (Make 1 ∷ Make 2 ∷ Make 3 ∷ Poll 1 5 ∷ steps 3 1 RanPending ++ Poll 2 7 ∷ steps 7 2 RanPending ++ Drop 2
      ∷ steps 2 2 RanPending ++ Poll 3 8 ∷ [])) (omega arith),
  λ r. ⊎_elim
      (λ (c : 2 ≤ 1). let z : ⊥ = omega arith in z) (λ z. z) r.0.1.2,
)

-- the place is full for a task that claimed
full_for_a_holder : Spoilt Once 1 (newest_first (Made 1 ∷ Made 2 ∷ Begin 1 5 ∷ Begin 2 7 ∷ Claim 1 ∷ End 1 Full ∷ []))
full_for_a_holder = (every_run Once 1 (newest_first (Make 1 ∷ Make 2 ∷ Poll 1 5 ∷ Poll 2 7 ∷ steps 2 1 RanPending)) (omega arith), λ r. false≢true (sym r.0.1.1))
