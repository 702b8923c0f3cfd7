-- Records in which a release hands out the wrong wakers: none is a run.
use Rattle.std.proofs.Common.{◌≤◌, ◌<◌, ℕ, true, [], ◌∷◌, ◌++◌, refl, arith}
use Rattle.std.proofs.lemmas.Bool.{false≢true}
use Rattle.once_machine.specs.Record.{Begin, Claim, DropBegin, DropEnd, End, Error, Fill, Free, GotNone, Made, Once, Own, Pending, Ran, RanError, RanPending, RanValue, Take}
use Rattle.once_machine.specs.Inputs.{Make, Poll, Drop, Go, Owns}
use Rattle.once_machine.proofs.Input.Headline.{every_run}
use Rattle.once_machine.proofs.Rows.Order.{newest_first, steps}
use Rattle.once_machine.proofs.Spoilt.Records.{Spoilt}

less_than_itself : (n : ℕ) → n < n → ⊥
less_than_itself n l = omega arith

two_in_one : ◌≤◌ 2 1 → ⊥
two_in_one l = omega arith

-- a release hands out a waker that no task waits with
waker_of_nobody : Spoilt Once 8 (newest_first (Made 1 ∷ Begin 1 7 ∷ Claim 1 ∷ Ran 1 (RanValue 4) ∷ Fill 1 4 (7 ∷ []) ∷ []))
waker_of_nobody = (every_run Once 8 (newest_first (Make 1 ∷ Poll 1 7 ∷ steps 3 1 (RanValue 4))) (omega arith), λ r. less_than_itself 0 (r.0.3.open_alone 7 refl))

-- a failure wakes nobody, and a task waits
waker_forgotten : Spoilt Once 8 (newest_first (Made 1 ∷ Made 2 ∷ Begin 1 5 ∷ Claim 1 ∷ Ran 1 RanPending ∷ End 1 Pending ∷ Begin 2 7 ∷ End 2 Pending ∷ Begin 1 5 ∷ Ran 1 (RanError 9) ∷ Free 1 [] ∷ []))
waker_forgotten = (
  every_run Once 8 (newest_first (Make 1 ∷ Make 2 ∷ Poll 1 5 ∷ steps 3 1 RanPending ++ Poll 2 7
      ∷ steps 7 2 RanPending ++ Poll 1 5 ∷ Go 1 (RanError 9) true ∷ [])) (omega arith),
  λ r. r.0.2.due 7
      (2, refl, refl, refl) refl,
)

-- a task polled again with another waker, and the fill hands out the older one alone
newer_waker_forgotten : Spoilt Once 8 (newest_first (Made 1 ∷ Made 2 ∷ Begin 1 5 ∷ Claim 1 ∷ Ran 1 RanPending
    ∷ End 1 Pending ∷ Begin 2 7 ∷ End 2 Pending ∷ Begin 2 8 ∷ End 2 Pending ∷ Begin 1 5 ∷ Ran 1 (RanValue 3)
    ∷ Fill 1 3 (7 ∷ []) ∷ []))
newer_waker_forgotten = (
  every_run Once 8 (newest_first (Make 1 ∷ Make 2 ∷ Poll 1 5 ∷ steps 3 1 RanPending ++ Poll 2 7
      ∷ steps 7 2 RanPending ++ Poll 2 8 ∷ steps 3 2 RanPending ++ Poll 1 5 ∷ Go 1 (RanValue 3) true ∷ []))
      (omega arith),
  λ r. false≢true (r.0.3.due 8 (2, refl, refl, refl)),
)

-- two tasks wait, and a failure wakes both
two_called : Spoilt Once 8 (newest_first (Made 1 ∷ Made 2 ∷ Made 3 ∷ Begin 1 5 ∷ Claim 1 ∷ Ran 1 RanPending
    ∷ End 1 Pending ∷ Begin 2 7 ∷ End 2 Pending ∷ Begin 3 8 ∷ End 3 Pending ∷ Begin 1 5 ∷ Ran 1 (RanError 9)
    ∷ Free 1 (7 ∷ 8 ∷ []) ∷ []))
two_called = (
  every_run Once 8 (newest_first (Make 1 ∷ Make 2 ∷ Make 3 ∷ Poll 1 5 ∷ steps 3 1 RanPending ++ Poll 2 7
      ∷ steps 7 2 RanPending ++ Poll 3 8 ∷ steps 7 3 RanPending ++ Poll 1 5 ∷ Go 1 (RanError 9) true ∷ []))
      (omega arith),
  λ r. two_in_one r.0.2.one,
)

-- two tasks wait with one waker, and a drop hands it out twice
waker_twice_in_a_drop : Spoilt Once 8 (newest_first (Made 1 ∷ Made 2 ∷ Made 3 ∷ Begin 1 5 ∷ Claim 1
    ∷ Ran 1 RanPending ∷ End 1 Pending ∷ Begin 2 7 ∷ End 2 Pending ∷ Begin 3 7 ∷ End 3 Pending ∷ DropBegin 1
    ∷ Free 1 (7 ∷ 7 ∷ []) ∷ []))
waker_twice_in_a_drop = (
  every_run Once 8 (newest_first (Make 1 ∷ Make 2 ∷ Make 3 ∷ Poll 1 5 ∷ steps 3 1 RanPending ++ Poll 2 7
      ∷ steps 7 2 RanPending ++ Poll 3 7 ∷ steps 7 3 RanPending ++ Drop 1 ∷ []))
      (omega arith),
  λ r. two_in_one r.0.2.one,
)

-- two tasks wait with one waker, and a fill hands it out twice
waker_twice_in_a_fill : Spoilt Once 8 (newest_first (Made 1 ∷ Made 2 ∷ Made 3 ∷ Begin 1 5 ∷ Claim 1
    ∷ Ran 1 RanPending ∷ End 1 Pending ∷ Begin 2 7 ∷ End 2 Pending ∷ Begin 3 7 ∷ End 3 Pending ∷ Begin 1 5
    ∷ Ran 1 (RanValue 4) ∷ Fill 1 4 (7 ∷ 7 ∷ []) ∷ []))
waker_twice_in_a_fill = (
  every_run Once 8 (newest_first (Make 1 ∷ Make 2 ∷ Make 3 ∷ Poll 1 5 ∷ steps 3 1 RanPending ++ Poll 2 7
      ∷ steps 7 2 RanPending ++ Poll 3 7 ∷ steps 7 3 RanPending ++ Poll 1 5 ∷ Go 1 (RanValue 4) true ∷ []))
      (omega arith),
  λ r. false≢true r.0.3.once,
)

-- a fill hands out a waker that a failure handed out
waker_in_two_releases : Spoilt Once 8 (newest_first (Made 1 ∷ Made 2 ∷ Made 3 ∷ Begin 1 5 ∷ Claim 1
    ∷ Ran 1 RanPending ∷ End 1 Pending ∷ Begin 2 7 ∷ End 2 Pending ∷ Begin 1 5 ∷ Ran 1 (RanError 9) ∷ Free 1 (7 ∷ [])
    ∷ End 1 (Error 9) ∷ Begin 3 8 ∷ Claim 3 ∷ Ran 3 (RanValue 6) ∷ Fill 3 6 (7 ∷ []) ∷ []))
waker_in_two_releases = (
  every_run Once 8 (newest_first (Make 1 ∷ Make 2 ∷ Make 3 ∷ Poll 1 5 ∷ steps 3 1 RanPending ++ Poll 2 7
      ∷ steps 7 2 RanPending ++ Poll 1 5 ∷ steps 6 1 (RanError 9) ++ Poll 3 8 ∷ steps 6 3 (RanValue 6)))
      (omega arith),
  λ r. less_than_itself 1 (r.0.3.open_alone 7 refl),
)

-- a second failure wakes a task that the first woke
called_twice : Spoilt Once 8 (newest_first (Made 1 ∷ Made 2 ∷ Made 3 ∷ Begin 1 5 ∷ Claim 1 ∷ Ran 1 RanPending
    ∷ End 1 Pending ∷ Begin 2 7 ∷ End 2 Pending ∷ Begin 1 5 ∷ Ran 1 (RanError 9) ∷ Free 1 (7 ∷ []) ∷ End 1 (Error 9)
    ∷ Begin 3 8 ∷ Claim 3 ∷ Ran 3 (RanError 6) ∷ Free 3 (7 ∷ []) ∷ []))
called_twice = (
  every_run Once 8 (newest_first (Make 1 ∷ Make 2 ∷ Make 3 ∷ Poll 1 5 ∷ steps 3 1 RanPending ++ Poll 2 7
      ∷ steps 7 2 RanPending ++ Poll 1 5 ∷ steps 6 1 (RanError 9) ++ Poll 3 8 ∷ steps 6 3 (RanError 6)))
      (omega arith),
  λ r. less_than_itself 1 (r.0.2.open_alone 7 refl),
)

-- two tasks wait with one waker, two failures hand it out, and so does a third
one_waker_thrice : Spoilt Once 8 (newest_first (Made 4 ∷ Made 5 ∷ Made 1 ∷ Made 2 ∷ Made 3 ∷ Begin 1 5 ∷ Claim 1
    ∷ Ran 1 RanPending ∷ End 1 Pending ∷ Begin 2 7 ∷ End 2 Pending ∷ Begin 3 7 ∷ End 3 Pending ∷ Begin 1 5
    ∷ Ran 1 (RanError 9) ∷ Free 1 (7 ∷ []) ∷ End 1 (Error 9) ∷ Begin 4 8 ∷ Claim 4 ∷ Ran 4 (RanError 6)
    ∷ Free 4 (7 ∷ []) ∷ End 4 (Error 6) ∷ Begin 5 8 ∷ Claim 5 ∷ Ran 5 (RanError 6) ∷ Free 5 (7 ∷ []) ∷ []))
one_waker_thrice = (
  every_run Once 8 (newest_first (Make 4 ∷ Make 5 ∷ Make 1 ∷ Make 2 ∷ Make 3 ∷ Poll 1 5 ∷ steps 3 1 RanPending
      ++ Poll 2 7 ∷ steps 7 2 RanPending ++ Poll 3 7 ∷ steps 7 3 RanPending ++ Poll 1 5 ∷ steps 6 1 (RanError 9)
      ++ Poll 4 8 ∷ steps 8 4 (RanError 6) ++ Poll 5 8 ∷ steps 6 5 (RanError 6)))
      (omega arith),
  λ r. less_than_itself 2 (r.0.2.open_alone 7 refl),
)

-- a waker from before the owner's call is handed out after it
waker_of_an_older_cell : Spoilt Once 8 (newest_first (Made 1 ∷ Made 2 ∷ Begin 1 5 ∷ Claim 1 ∷ Ran 1 RanPending
    ∷ End 1 Pending ∷ Begin 2 7 ∷ End 2 Pending ∷ DropBegin 2 ∷ DropEnd 2 ∷ DropBegin 1 ∷ Free 1 [] ∷ DropEnd 1
    ∷ Own Take GotNone ∷ Made 3 ∷ Begin 3 8 ∷ Claim 3 ∷ Ran 3 (RanValue 6) ∷ Fill 3 6 (7 ∷ []) ∷ []))
waker_of_an_older_cell = (
  every_run Once 8 (newest_first (Make 1 ∷ Make 2 ∷ Poll 1 5 ∷ steps 3 1 RanPending ++ Poll 2 7
      ∷ steps 7 2 RanPending ++ Drop 2 ∷ steps 2 2 RanPending ++ Drop 1 ∷ Go 1 RanPending true ∷ Owns Take ∷ Make 3
      ∷ Poll 3 8 ∷ steps 3 3 (RanValue 6))) (omega arith),
  λ r. less_than_itself 0 (r.0.3.open_alone 7 refl),
)

-- a release hands out the waker of the holder itself
waker_of_the_holder : Spoilt Once 8 (newest_first (Made 1 ∷ Begin 1 5 ∷ Claim 1 ∷ Ran 1 RanPending ∷ End 1 Pending ∷ Begin 1 7 ∷ Ran 1 (RanValue 4) ∷ Fill 1 4 (5 ∷ []) ∷ []))
waker_of_the_holder =
    (every_run Once 8 (newest_first (Make 1 ∷ Poll 1 5 ∷ steps 3 1 RanPending ++ Poll 1 7 ∷ Go 1 (RanValue 4) true ∷ [])) (omega arith), λ r. less_than_itself 0 (r.0.3.open_alone 5 refl))
