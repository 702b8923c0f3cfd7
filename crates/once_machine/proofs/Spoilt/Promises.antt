-- Records that break a promise: a forgotten waiter, and more values than one.
use Rattle.std.proofs.Common.{◌≡◌, ℕ, [], ◌∷◌, refl, arith}
use Rattle.once_machine.specs.Record.{Begin, Claim, End, Fill, Free, Made, Once, OnceWith, Pending, Ran, RanError, RanPending, RanValue, Value}
use Rattle.once_machine.specs.Run.{NobodyForgotten}
use Rattle.once_machine.specs.Values.{IsOneValue}
use Rattle.once_machine.proofs.History.Cells.{same_value}
use Rattle.once_machine.proofs.Rows.Order.{newest_first}

four_not_five : ◌≡◌ {A = ℕ} 4 5 → ⊥
four_not_five e = omega arith

five_not_four : ◌≡◌ {A = ℕ} 5 4 → ⊥
five_not_four e = omega arith

-- the value is set, and the task that waits was not woken
forgotten : NobodyForgotten Once (newest_first (Made 1 ∷ Made 2 ∷ Begin 1 5 ∷ Claim 1 ∷ Ran 1 RanPending
    ∷ End 1 Pending ∷ Begin 2 7 ∷ End 2 Pending ∷ Begin 1 5 ∷ Ran 1 (RanValue 4) ∷ Fill 1 4 [] ∷ []))
    → ⊥
forgotten n = n refl 7 (2, refl, refl, refl)

-- a failure woke the task, which waits again with the same waker and is forgotten as the value is set
forgotten_later : NobodyForgotten Once (newest_first (Made 1 ∷ Made 2 ∷ Made 3 ∷ Begin 1 5 ∷ Claim 1
    ∷ Ran 1 RanPending ∷ End 1 Pending ∷ Begin 2 7 ∷ End 2 Pending ∷ Begin 3 8 ∷ Begin 1 5 ∷ Ran 1 (RanError 9)
    ∷ Free 1 (7 ∷ []) ∷ Claim 3 ∷ Ran 3 RanPending ∷ End 3 Pending ∷ Begin 2 7 ∷ End 2 Pending ∷ Begin 3 8
    ∷ Ran 3 (RanValue 4) ∷ Fill 3 4 [] ∷ []))
    → ⊥
forgotten_later n = n refl 7 (2, refl, refl, refl)

-- the value 4 is set, and a poll answers 5
answer_of_another_value : IsOneValue (OnceWith 4) (newest_first (Made 1 ∷ Begin 1 7 ∷ End 1 (Value 5) ∷ [])) → ⊥
answer_of_another_value o = four_not_five (same_value 4 5 o.0)

-- the value 4 is set, and a fill puts 5 in its place
filled_again : IsOneValue (OnceWith 4) (newest_first (Made 1 ∷ Begin 1 7 ∷ Fill 1 5 [] ∷ [])) → ⊥
filled_again o = five_not_four (same_value 5 4 (o.1 refl 4 refl))
