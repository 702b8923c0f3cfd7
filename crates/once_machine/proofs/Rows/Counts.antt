-- How many tasks are about and wait in the rows at the limit.
use Rattle.std.proofs.Common.{◌≡◌, ◌≤◌, List, [], ◌∷◌, refl, arith}
use Rattle.once_machine.specs.Record.{Begin, Claim, DropBegin, End, Entry, Made, Once, Pending, Ran, RanPending}
use Rattle.once_machine.specs.Refusals.{crowd}
use Rattle.once_machine.specs.Crowd.{AreWaiting, waiters}
use Rattle.once_machine.proofs.Rows.Order.{newest_first}

-- the first task holds, the second waits, the third is in its drop, the fourth was never polled, and the fifth polls
abbrev five : List Entry
five = newest_first (
    Made 1 ∷ Made 2 ∷ Made 3 ∷ Made 4 ∷ Made 5 ∷ Begin 1 5 ∷ Claim 1 ∷ Ran 1 RanPending ∷ End 1 Pending
    ∷ Begin 2 7 ∷ End 2 Pending ∷ Begin 3 8 ∷ End 3 Pending ∷ DropBegin 3 ∷ Begin 5 9 ∷ [])

-- three others are about than the fifth, and four others than the fourth
about : (crowd Once 5 five ≡ 3) × (crowd Once 4 five ≡ 4)
about = (refl, refl)

-- one of them waits, and besides the second none does
waiting : (waiters Once 5 five ≡ 1) × (waiters Once 2 five ≡ 0)
waiting = (refl, refl)

-- so not two of them wait
not_two : AreWaiting Once 2 5 five → ⊥
not_two a = let c : 2 ≤ 1 = a in let z : ⊥ = omega arith in z
