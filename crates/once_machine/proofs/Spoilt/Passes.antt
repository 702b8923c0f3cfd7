-- Records with one thing wrong about a turn that is passed on: none is a run.
use Rattle.std.proofs.Common.{◌≡◌, ◌<◌, ℕ, Bool, true, false, ◌⊎◌, ⊎_elim, List, [], ◌∷◌, ◌++◌, sym, subst, arith}
use Rattle.std.proofs.lemmas.Bool.{false≢true}
use Rattle.once_machine.specs.Record.{Begin, Claim, DropBegin, End, Entry, Error, Fill, Free, Made, Memory, Once, Pass, Pending, Ran, RanError, RanPending, RanValue, Reply, Value}
use Rattle.once_machine.specs.Wakers.{IsOpen}
use Rattle.once_machine.specs.Inputs.{Drop, Go, Input, Make, Poll}
use Rattle.once_machine.proofs.Input.Headline.{every_run}
use Rattle.once_machine.proofs.History.Cells.{empty_not_set, held_not_empty}
use Rattle.once_machine.proofs.Rows.Order.{newest_first, run, steps}
use Rattle.once_machine.proofs.Spoilt.Records.{Spoilt}

-- the first task holds and three wait, the oldest first
abbrev waiting : List Entry
waiting =
    Made 1 ∷ Made 2 ∷ Made 3 ∷ Made 4 ∷ Made 5 ∷ Begin 1 5 ∷ Claim 1 ∷ Ran 1 RanPending ∷ End 1 Pending
    ∷ Begin 2 7 ∷ End 2 Pending ∷ Begin 3 8 ∷ End 3 Pending ∷ Begin 4 9 ∷ End 4 Pending ∷ []

abbrev waiting_inputs : List Input
waiting_inputs = Make 1 ∷ Make 2 ∷ Make 3 ∷ Make 4 ∷ Make 5 ∷ Poll 1 5 ∷ run 1 RanPending ++ Poll 2 7 ∷ run 2 RanPending ++ Poll 3 8 ∷ run 3 RanPending ++ Poll 4 9 ∷ run 4 RanPending

-- it fails and wakes the second
abbrev called : List Entry
called = waiting ++ Begin 1 5 ∷ Ran 1 (RanError 6) ∷ Free 1 (7 ∷ []) ∷ End 1 (Error 6) ∷ []

abbrev called_inputs : List Input
called_inputs = waiting_inputs ++ Poll 1 5 ∷ run 1 (RanError 6)

-- that is refused memory, and passes its turn on in its poll
abbrev refused : List Entry
refused = waiting ++ Begin 2 6 ∷ Begin 1 5 ∷ Ran 1 (RanError 6) ∷ Free 1 (7 ∷ []) ∷ End 1 (Error 6) ∷ Pass 2 (8 ∷ []) ∷ []

abbrev refused_inputs : List Input
refused_inputs = waiting_inputs ++ Poll 2 6 ∷ Go 2 RanPending true ∷ Go 2 RanPending false ∷ Poll 1 5 ∷ run 1 (RanError 6) ++ Go 2 RanPending true ∷ []

less_than_itself : (n : ℕ) → n < n → ⊥
less_than_itself n l = omega arith

not_memory : (r : Reply) → (◌≡◌ {A = Bool} true false ⊎ (r ≡ Memory)) → (r ≡ Memory → ⊥) → ⊥
not_memory r e n = ⊎_elim (λ f. false≢true (sym f)) n e

-- a turn is passed on to the task that passes it on: its waker is not open
pass_to_itself : Spoilt Once 8 (newest_first (called ++ DropBegin 2 ∷ Pass 2 (7 ∷ []) ∷ []))
pass_to_itself = (
  every_run Once 8 (newest_first (called_inputs ++ Drop 2 ∷ []))
      (omega arith),
  λ r. let same : 7 ≡ r.0.3.0 = cc in less_than_itself 1
      (subst (λ w. IsOpen Once w (newest_first (called ++ DropBegin 2 ∷ []))) (sym same) r.0.3.2),
)

-- a turn is passed on to nobody
pass_to_nobody : Spoilt Once 8 (newest_first (called ++ DropBegin 2 ∷ Pass 2 [] ∷ []))
pass_to_nobody = (every_run Once 8 (newest_first (called_inputs ++ Drop 2 ∷ [])) (omega arith), λ r. let e = r.0.3.1 in let z : ⊥ = cc in z)

-- a turn is passed on to two
pass_to_two : Spoilt Once 8 (newest_first (called ++ DropBegin 2 ∷ Pass 2 (8 ∷ 9 ∷ []) ∷ []))
pass_to_two = (every_run Once 8 (newest_first (called_inputs ++ Drop 2 ∷ [])) (omega arith), λ r. let e = r.0.3.1 in let z : ⊥ = cc in z)

-- one drop passes a turn on twice
second_pass : Spoilt Once 8 (newest_first (called ++ DropBegin 2 ∷ Pass 2 (8 ∷ []) ∷ Pass 2 (9 ∷ []) ∷ []))
second_pass = (every_run Once 8 (newest_first (called_inputs ++ Drop 2 ∷ Go 2 RanPending true ∷ [])) (omega arith), λ r. false≢true (sym r.0.2))

-- a task that rests passes its turn on
pass_at_rest : Spoilt Once 8 (newest_first (called ++ Pass 2 (8 ∷ []) ∷ []))
pass_at_rest = (every_run Once 8 (newest_first called_inputs) (omega arith), λ r. r.0.1)

-- a task is dropped and passes its turn on while another holds
pass_while_held : Spoilt Once 8 (newest_first (called ++ Begin 5 4 ∷ Claim 5 ∷ Ran 5 RanPending ∷ End 5 Pending ∷ DropBegin 2 ∷ Pass 2 (8 ∷ []) ∷ []))
pass_while_held = (every_run Once 8 (newest_first (called_inputs ++ Poll 5 4 ∷ run 5 RanPending ++ Drop 2 ∷ [])) (omega arith), λ r. held_not_empty 5 r.0.0)

-- a task is dropped and passes its turn on while the value is set, to a waker that is still open: its task waits with a newer one
pass_when_set : Spoilt Once 8 (newest_first (waiting ++ Begin 3 6 ∷ End 3 Pending ∷ Begin 1 5 ∷ Ran 1 (RanValue 4) ∷ Fill 1 4 (7 ∷ 9 ∷ 6 ∷ []) ∷ End 1 (Value 4) ∷ DropBegin 2 ∷ Pass 2 (8 ∷ []) ∷ []))
pass_when_set = (every_run Once 8 (newest_first (waiting_inputs ++ Poll 3 6 ∷ run 3 RanPending ++ Poll 1 5 ∷ run 1 (RanValue 4) ++ Drop 2 ∷ [])) (omega arith), λ r. empty_not_set 4 (sym r.0.0))

-- a poll that claimed and failed passes a turn on, after it freed the cell
pass_after_an_error : Spoilt Once 8 (newest_first (waiting ++ Begin 1 5 ∷ Ran 1 (RanError 6) ∷ Free 1 (7 ∷ []) ∷ Pass 1 (8 ∷ []) ∷ []))
pass_after_an_error = (every_run Once 8 (newest_first (waiting_inputs ++ Poll 1 5 ∷ steps 5 1 (RanError 6))) (omega arith), λ r. r.0.1)

-- a poll claims the right after it passed its turn on
claim_after_a_pass : Spoilt Once 8 (newest_first (refused ++ Claim 2 ∷ []))
claim_after_a_pass = (every_run Once 8 (newest_first refused_inputs) (omega arith), λ r. false≢true (sym r.0.3))

-- a poll ends pending after it passed its turn on
pending_after_a_pass : Spoilt Once 8 (newest_first (refused ++ Begin 5 4 ∷ Claim 5 ∷ Ran 5 RanPending ∷ End 5 Pending ∷ End 2 Pending ∷ []))
pending_after_a_pass = (every_run Once 8 (newest_first (refused_inputs ++ Poll 5 4 ∷ run 5 RanPending)) (omega arith), λ r. not_memory Pending r.0.2 (λ e. let z : ⊥ = cc in z))

-- a poll answers the value after it passed its turn on
value_after_a_pass : Spoilt Once 8 (newest_first (refused ++ Begin 5 4 ∷ Claim 5 ∷ Ran 5 (RanValue 4) ∷ Fill 5 4 (9 ∷ []) ∷ End 5 (Value 4) ∷ End 2 (Value 4) ∷ []))
value_after_a_pass = (every_run Once 8 (newest_first (refused_inputs ++ Poll 5 4 ∷ run 5 (RanValue 4))) (omega arith), λ r. not_memory (Value 4) r.0.2 (λ e. let z : ⊥ = cc in z))
