-- Records with one thing wrong, about which task holds and which value is set: none is a run.
use Rattle.std.proofs.Common.{◌≡◌, ℕ, true, [], ◌∷◌, ◌++◌, Option, Some, None, refl, sym, arith}
use Rattle.std.proofs.lemmas.Bool.{false≢true}
use Rattle.once_machine.specs.Record.{Answer, Begin, Claim, DropBegin, DropEnd, End, Fill, Free, Got, GotAnswers, GotNone, GotValue, Lazy, Look, Made, Once}
use Rattle.once_machine.specs.Record.{OnceWith, Own, Parts, Pending, Ran, RanPending, RanValue, Take, Value}
use Rattle.once_machine.specs.Inputs.{Make, Poll, Drop, Go, Owns}
use Rattle.once_machine.proofs.Input.Headline.{every_run}
use Rattle.once_machine.proofs.History.Cells.{empty_not_set, held_not_empty, same_holder}
use Rattle.once_machine.proofs.Rows.Order.{newest_first, steps}
use Rattle.once_machine.proofs.Spoilt.Records.{Spoilt}

-- two numbers that are not one
one_not_two : ◌≡◌ {A = ℕ} 1 2 → ⊥
one_not_two e = omega arith

four_not_five : ◌≡◌ {A = ℕ} 4 5 → ⊥
four_not_five e = omega arith

other_answer : ◌≡◌ {A = Option Answer} (Some (RanValue 4)) (Some (RanValue 5)) → ⊥
other_answer e = let n : ◌≡◌ {A = ℕ} 4 5 = cc in four_not_five n

value_not_pending : ◌≡◌ {A = Answer} (RanValue 9) RanPending → ⊥
value_not_pending e = cc

nothing_not_value : ◌≡◌ {A = Got} GotNone (GotValue 4) → ⊥
nothing_not_value e = cc

none_not_four : ◌≡◌ {A = Option ℕ} None (Some 4) → ⊥
none_not_four e = cc

four_not_none : ◌≡◌ {A = Option ℕ} (Some 4) None → ⊥
four_not_none e = cc

-- a second task claims the right while the first holds
two_holders : Spoilt Once 8 (newest_first (Made 1 ∷ Made 2 ∷ Begin 1 5 ∷ Claim 1 ∷ Begin 2 7 ∷ Claim 2 ∷ []))
two_holders = (every_run Once 8 (newest_first (Make 1 ∷ Make 2 ∷ Poll 1 5 ∷ steps 2 1 RanPending ++ Poll 2 7 ∷ [])) (omega arith), λ r. held_not_empty 1 r.0.0)

-- a task claims the right while the value is set
claim_of_a_set_cell : Spoilt (OnceWith 4) 8 (newest_first (Made 1 ∷ Begin 1 5 ∷ Claim 1 ∷ []))
claim_of_a_set_cell = (every_run (OnceWith 4) 8 (newest_first (Make 1 ∷ Poll 1 5 ∷ [])) (omega arith), λ r. empty_not_set 4 (sym r.0.0))

-- a task that does not hold polls its init
run_without_the_right : Spoilt Once 8 (newest_first (Made 1 ∷ Made 2 ∷ Begin 1 5 ∷ Claim 1 ∷ Ran 1 RanPending ∷ End 1 Pending ∷ Begin 2 7 ∷ Ran 2 (RanValue 4) ∷ []))
run_without_the_right = (every_run Once 8 (newest_first (Make 1 ∷ Make 2 ∷ Poll 1 5 ∷ steps 3 1 RanPending ++ Poll 2 7 ∷ [])) (omega arith), λ r. one_not_two (same_holder 1 2 r.0.0))

-- one poll of a task polls its init twice
run_twice : Spoilt Once 8 (newest_first (Made 1 ∷ Begin 1 7 ∷ Claim 1 ∷ Ran 1 (RanValue 4) ∷ Ran 1 (RanValue 4) ∷ []))
run_twice = (every_run Once 8 (newest_first (Make 1 ∷ Poll 1 7 ∷ steps 3 1 (RanValue 4))) (omega arith), λ r. let e = r.0.2 in let z : ⊥ = cc in z)

-- the init gave 4, and the fill is of 5
fill_of_another_value : Spoilt Once 8 (newest_first (Made 1 ∷ Begin 1 7 ∷ Claim 1 ∷ Ran 1 (RanValue 4) ∷ Fill 1 5 [] ∷ []))
fill_of_another_value = (every_run Once 8 (newest_first (Make 1 ∷ Poll 1 7 ∷ steps 3 1 (RanValue 4))) (omega arith), λ r. other_answer r.0.2)

-- a poll whose init gave a value frees the cell
value_thrown_away : Spoilt Once 8 (newest_first (Made 1 ∷ Begin 1 7 ∷ Claim 1 ∷ Ran 1 (RanValue 4) ∷ Free 1 [] ∷ []))
value_thrown_away = (every_run Once 8 (newest_first (Make 1 ∷ Poll 1 7 ∷ steps 3 1 (RanValue 4))) (omega arith), λ r. r.0.1)

-- a holder's drop ends, and it still holds
dropped_with_the_right : Spoilt Once 8 (newest_first (Made 1 ∷ Begin 1 7 ∷ Claim 1 ∷ Ran 1 RanPending ∷ End 1 Pending ∷ DropBegin 1 ∷ DropEnd 1 ∷ []))
dropped_with_the_right = (every_run Once 8 (newest_first (Make 1 ∷ Poll 1 7 ∷ steps 3 1 RanPending ++ Drop 1 ∷ [])) (omega arith), λ r. r.0.1 refl)

-- the next answer of a lazy init is pending, and its value comes first
lazy_out_of_order : Spoilt (Lazy (None ∷ Some 9 ∷ [])) 8 (newest_first (Made 1 ∷ Begin 1 7 ∷ Claim 1 ∷ Ran 1 (RanValue 9) ∷ []))
lazy_out_of_order = (every_run (Lazy (None ∷ Some 9 ∷ [])) 8 (newest_first (Make 1 ∷ Poll 1 7 ∷ steps 2 1 RanPending)) (omega arith), λ r. value_not_pending r.0.3)

-- a lazy cell is taken apart, and gives back an answer that was used
used_answer_back : Spoilt (Lazy (None ∷ [])) 8 (newest_first
    (Made 1 ∷ Begin 1 7 ∷ Claim 1 ∷ Ran 1 RanPending ∷ End 1 Pending ∷ DropBegin 1 ∷ Free 1 [] ∷ DropEnd 1
    ∷ Own Parts (GotAnswers (None ∷ [])) ∷ []))
used_answer_back = (
  every_run (Lazy (None ∷ [])) 8 (newest_first
      (Make 1 ∷ Poll 1 7 ∷ steps 3 1 RanPending ++ Drop 1 ∷ Go 1 RanPending true ∷ []))
      (omega arith),
  λ r. let e = r.0.2 in let z : ⊥ = cc in z,
)

-- the value is set, and the owner's Take gives nothing
take_of_nothing : Spoilt (OnceWith 4) 8 (newest_first (Own Take GotNone ∷ []))
take_of_nothing = (every_run (OnceWith 4) 8 [] (omega arith), λ r. nothing_not_value r.0.2)

-- the owner took the value, and a look still finds it
look_after_a_take : Spoilt (OnceWith 4) 8 (newest_first (Own Take (GotValue 4) ∷ Look (Some 4) ∷ []))
look_after_a_take = (every_run (OnceWith 4) 8 (newest_first (Owns Take ∷ [])) (omega arith), λ r. four_not_none r.0)

-- a look finds a value while a task still holds
look_before_the_fill : Spoilt Once 8 (newest_first (Made 1 ∷ Begin 1 7 ∷ Claim 1 ∷ Ran 1 (RanValue 4) ∷ Look (Some 4) ∷ []))
look_before_the_fill = (every_run Once 8 (newest_first (Make 1 ∷ Poll 1 7 ∷ steps 3 1 (RanValue 4))) (omega arith), λ r. four_not_none r.0)

-- a look finds nothing while the value is set
look_finds_nothing : Spoilt (OnceWith 4) 8 (newest_first (Look None ∷ []))
look_finds_nothing = (every_run (OnceWith 4) 8 [] (omega arith), λ r. none_not_four r.0)

-- the owner calls while a task is not gone
owner_too_early : Spoilt (OnceWith 4) 8 (newest_first (Made 1 ∷ Own Take (GotValue 4) ∷ []))
owner_too_early = (every_run (OnceWith 4) 8 (newest_first (Make 1 ∷ [])) (omega arith), λ r. false≢true r.0.0)

-- a once cell is taken apart, which is a call of lazy cells alone
parts_of_a_once_cell : Spoilt Once 8 (newest_first (Own Parts (GotAnswers []) ∷ []))
parts_of_a_once_cell = (every_run Once 8 [] (omega arith), λ r. false≢true r.0.1)

-- a task begins a poll while its poll is under way
begin_under_way : Spoilt Once 8 (newest_first (Made 1 ∷ Begin 1 7 ∷ Begin 1 7 ∷ []))
begin_under_way = (every_run Once 8 (newest_first (Make 1 ∷ Poll 1 7 ∷ [])) (omega arith), λ r. r.0)

-- a task that is gone begins again
begin_of_a_gone_task : Spoilt (OnceWith 4) 8 (newest_first (Made 1 ∷ Begin 1 7 ∷ End 1 (Value 4) ∷ Begin 1 7 ∷ []))
begin_of_a_gone_task = (every_run (OnceWith 4) 8 (newest_first (Make 1 ∷ Poll 1 7 ∷ Go 1 RanPending true ∷ [])) (omega arith), λ r. r.0)
