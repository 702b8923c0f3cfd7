-- How long a waker is open, and how often it may be handed out.
use Rattle.std.proofs.Common.{◌≡◌, ◌<◌, ℕ, true, List, [], ◌∷◌, ◌++◌, refl, subst, arith}
use Rattle.std.proofs.lemmas.Bool.{eqb-true}
use Rattle.once_machine.specs.Numbers.{member}
use Rattle.once_machine.specs.Record.{Begin, Claim, DropBegin, DropEnd, End, Entry, Free, Got, GotNone, Made, Once, Own, OwnerCall, Pass, Pending, Ran, RanError, RanPending, Take, Write, replaces}
use Rattle.once_machine.specs.Wakers.{CallsOne, IsOpen, times_handed, times_opened}
use Rattle.once_machine.specs.Run.{IsRun}
use Rattle.once_machine.specs.Inputs.{Drop, Input, Make, Owns, Poll}
use Rattle.once_machine.proofs.Input.Headline.{every_run}
use Rattle.once_machine.proofs.Rows.Order.{newest_first, run, steps}
use Rattle.once_machine.proofs.Spoilt.Records.{Spoilt}

-- a waiting task and its holder are dropped, the oldest first
abbrev left : List Entry
left = Made 1 ∷ Made 2 ∷ Begin 1 5 ∷ Claim 1 ∷ Ran 1 RanPending ∷ End 1 Pending ∷ Begin 2 7 ∷ End 2 Pending ∷ DropBegin 2 ∷ DropEnd 2 ∷ DropBegin 1 ∷ Free 1 [] ∷ DropEnd 1 ∷ []

abbrev left_inputs : List Input
left_inputs = Make 1 ∷ Make 2 ∷ Poll 1 5 ∷ run 1 RanPending ++ Poll 2 7 ∷ run 2 RanPending ++ Drop 2 ∷ run 2 RanPending ++ Drop 1 ∷ run 1 RanPending

-- then the init of another task fails
abbrev failing : List Entry
failing = Made 3 ∷ Begin 3 6 ∷ Claim 3 ∷ Ran 3 (RanError 9) ∷ []

abbrev failing_inputs : List Input
failing_inputs = Make 3 ∷ Poll 3 6 ∷ steps 3 3 (RanError 9)

-- the waker of the task that left is open, since nobody handed it out
open_still : IsOpen Once 7 (newest_first (left ++ failing))
open_still = omega arith

-- a value that the owner writes changes nothing of that
open_after_write : (v : ℕ) (g : Got) → IsOpen Once 7 (newest_first (left ++ Own (Write v) g ∷ failing))
open_after_write v g = omega arith

-- after any other call of the owner it is open no longer
shut_after_another_call : (o : OwnerCall) (g : Got) → replaces o ≡ true → IsOpen Once 7 (newest_first (left ++ Own o g ∷ failing)) → ⊥
shut_after_another_call o g r p = let q : 0 < 0 = rw r at p in omega arith

-- so a failure after the Write may hand it out
abbrev written : List Entry
written = newest_first (left ++ Own (Write 4) GotNone ∷ failing)

seven_open : (w : ℕ) → member w (7 ∷ []) ≡ true → IsOpen Once w written
seven_open w m = let same : 7 ≡ w = eqb-true 7 w (grind (arith, m)) in subst (λ v. IsOpen Once v written) same (omega arith)

calls_seven : CallsOne Once (7 ∷ []) written
calls_seven = record { one = omega arith; due = λ w d e. let z : ⊥ = cc in z; open_alone = seven_open }

called_after_write : IsRun Once 8 (Free 3 (7 ∷ []) ∷ written)
called_after_write = ((refl, tt, calls_seven), every_run Once 8 (newest_first (left_inputs ++ Owns (Write 4) ∷ failing_inputs)) (omega arith))

-- and one after a Take may not
called_after_take : Spoilt Once 8 (newest_first (left ++ Own Take GotNone ∷ failing ++ Free 3 (7 ∷ []) ∷ []))
called_after_take = (every_run Once 8 (newest_first (left_inputs ++ Owns Take ∷ failing_inputs)) (omega arith), λ r. shut_after_another_call Take GotNone refl (r.0.2.open_alone 7 refl))

-- two tasks wait with one waker: it is open twice
abbrev twice : List Entry
twice = Made 1 ∷ Made 2 ∷ Made 3 ∷ Begin 1 5 ∷ Claim 1 ∷ Ran 1 RanPending ∷ End 1 Pending ∷ Begin 2 7 ∷ End 2 Pending ∷ Begin 3 7 ∷ End 3 Pending ∷ []

opened_twice : (times_opened Once 7 (newest_first twice) ≡ 2) × (times_handed 7 (newest_first twice) ≡ 0)
opened_twice = (refl, refl)

-- so it may be handed out for each, by a release and by a turn passed on
open_for_the_other : IsOpen Once 7 (newest_first (twice ++ DropBegin 1 ∷ Free 1 (7 ∷ []) ∷ DropEnd 1 ∷ DropBegin 2 ∷ []))
open_for_the_other = omega arith

open_for_nobody_more : IsOpen Once 7 (newest_first (twice ++ DropBegin 1 ∷ Free 1 (7 ∷ []) ∷ DropEnd 1 ∷ DropBegin 2 ∷ Pass 2 (7 ∷ []) ∷ [])) → ⊥
open_for_nobody_more o = omega arith

-- each poll that ends pending while another holds opens its waker once more
opened_by_each_poll : times_opened Once 7 (newest_first (twice ++ Begin 2 7 ∷ End 2 Pending ∷ [])) ≡ 3
opened_by_each_poll = refl

-- a poll of the holder opens none
opened_by_no_holder : times_opened Once 5 (newest_first twice) ≡ 0
opened_by_no_holder = refl
