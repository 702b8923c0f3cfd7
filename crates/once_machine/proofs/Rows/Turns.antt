-- Which task was woken, and which was not, in the rows in which a turn is passed on.
use Rattle.std.proofs.Common.{inl, inr, List, [], ◌∷◌, ◌++◌, refl, sym}
use Rattle.std.proofs.lemmas.Bool.{false≢true}
use Rattle.once_machine.specs.Record.{Begin, Claim, DropBegin, End, Entry, Error, Free, Made, Once, Pass, Pending, Ran, RanError, RanPending}
use Rattle.once_machine.specs.Called.{HasTurn, IsCalled}
use Rattle.once_machine.proofs.Rows.Order.{newest_first}

-- the first task held, failed and woke the second; the third waits, and the fourth was never polled
abbrev called : List Entry
called =
    Made 1 ∷ Made 2 ∷ Made 3 ∷ Made 4 ∷ Begin 1 5 ∷ Claim 1 ∷ Ran 1 RanPending ∷ End 1 Pending ∷ Begin 2 7 ∷ End 2 Pending ∷ Begin 3 8 ∷ End 3 Pending
    ∷ Begin 1 5 ∷ Ran 1 (RanError 9) ∷ Free 1 (7 ∷ []) ∷ End 1 (Error 9) ∷ []

-- the second was woken while it waits
second_called : IsCalled Once 2 (newest_first called)
second_called = (inl refl, refl)

-- the third was not
third_uncalled : IsCalled Once 3 (newest_first called) → ⊥
third_uncalled k = false≢true k.1

-- in its drop the second still has the turn
turn_in_a_drop : IsCalled Once 2 (newest_first (called ++ DropBegin 2 ∷ []))
turn_in_a_drop = (inr (record { under_way = refl; began = refl; unclaimed = refl; unpassed = refl }), refl)

-- and in its next poll, whatever its waker is
turn_in_a_poll : IsCalled Once 2 (newest_first (called ++ Begin 2 6 ∷ []))
turn_in_a_poll = (inr (record { under_way = refl; began = refl; unclaimed = refl; unpassed = refl }), refl)

-- once it passed the turn on it has none, and the third was woken
turn_passed : HasTurn Once 2 (newest_first (called ++ DropBegin 2 ∷ Pass 2 (8 ∷ []) ∷ [])) → ⊥
turn_passed r = false≢true (sym r.unpassed)

third_called : IsCalled Once 3 (newest_first (called ++ DropBegin 2 ∷ Pass 2 (8 ∷ []) ∷ []))
third_called = (inl refl, refl)

-- nor has it one once it claimed
turn_claimed : HasTurn Once 2 (newest_first (called ++ Begin 2 7 ∷ Claim 2 ∷ [])) → ⊥
turn_claimed r = false≢true (sym r.unclaimed)

-- a task that did not wait has none in its poll
fresh_has_none : HasTurn Once 4 (newest_first (called ++ Begin 4 7 ∷ [])) → ⊥
fresh_has_none r = let e = r.began in let z : ⊥ = cc in z

-- a task that waits again since it was woken no longer counts as woken
waits_again : IsCalled Once 2 (newest_first (called ++ Begin 4 6 ∷ Claim 4 ∷ Ran 4 RanPending ∷ End 4 Pending ∷ Begin 2 7 ∷ End 2 Pending ∷ [])) → ⊥
waits_again k = false≢true k.1
