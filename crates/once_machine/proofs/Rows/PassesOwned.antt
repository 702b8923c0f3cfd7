-- Rows of passes in a lazy cell, and before calls of the owner.
use Rattle.std.proofs.Common.{◌≡◌, List, [], ◌∷◌, ◌++◌, Some, None, refl, arith}
use Rattle.once_machine.specs.Record.{RanPending, RanValue, RanError, Pending, Value, Error, Once, Lazy, Take, Write, Parts, ReplaceAnswers, GotNone, GotValue}
use Rattle.once_machine.specs.Record.{Entry, Made, Begin, Claim, Ran, Free, Fill, Pass, End, DropBegin, DropEnd, Own}
use Rattle.once_machine.specs.Run.{IsRun}
use Rattle.once_machine.specs.Inputs.{Input, Make, Poll, Drop, Owns}
use Rattle.once_machine.specs.Machine.{history_of, queue_of}
use Rattle.once_machine.proofs.Input.Headline.{every_run}
use Rattle.once_machine.proofs.Rows.Order.{newest_first, run}

-- the turn is passed on, and everybody leaves: after the owner takes the cell the same wakers start anew
abbrev own_passes_then_take_inputs : List Input
own_passes_then_take_inputs =
    newest_first
    (Make 1 ∷ Make 2 ∷ Make 3 ∷ Poll 1 5 ∷ run 1 RanPending ++ Poll 2 7 ∷ run 2 RanPending ++ Poll 3 8
    ∷ run 3 RanPending ++ Poll 1 5 ∷ run 1 (RanError 9) ++ Drop 2 ∷ run 2 RanPending ++ Owns Take ∷ Drop 3
    ∷ run 3 RanPending ++ Owns Take ∷ Make 4 ∷ Make 5 ∷ Make 6 ∷ Poll 4 5 ∷ run 4 RanPending ++ Poll 5 8
    ∷ run 5 RanPending ++ Poll 6 7 ∷ run 6 RanPending ++ Poll 4 5 ∷ run 4 (RanError 9) ++ Drop 5
    ∷ run 5 RanPending ++ Poll 6 7 ∷ run 6 (RanValue 3) ++ Owns (Write 4) ∷ Owns Take ∷ [])

abbrev pub own_passes_then_take_record : List Entry
own_passes_then_take_record =
    newest_first
    (Made 1 ∷ Made 2 ∷ Made 3 ∷ Begin 1 5 ∷ Claim 1 ∷ Ran 1 RanPending ∷ End 1 Pending ∷ Begin 2 7 ∷ End 2 Pending
    ∷ Begin 3 8 ∷ End 3 Pending ∷ Begin 1 5 ∷ Ran 1 (RanError 9) ∷ Free 1 (7 ∷ []) ∷ End 1 (Error 9)
    ∷ DropBegin 2 ∷ Pass 2 (8 ∷ []) ∷ DropEnd 2 ∷ DropBegin 3 ∷ DropEnd 3 ∷ Own Take GotNone ∷ Made 4 ∷ Made 5
    ∷ Made 6 ∷ Begin 4 5 ∷ Claim 4 ∷ Ran 4 RanPending ∷ End 4 Pending ∷ Begin 5 8 ∷ End 5 Pending ∷ Begin 6 7
    ∷ End 6 Pending ∷ Begin 4 5 ∷ Ran 4 (RanError 9) ∷ Free 4 (8 ∷ []) ∷ End 4 (Error 9) ∷ DropBegin 5
    ∷ Pass 5 (7 ∷ []) ∷ DropEnd 5 ∷ Begin 6 7 ∷ Claim 6 ∷ Ran 6 (RanValue 3) ∷ Fill 6 3 [] ∷ End 6 (Value 3)
    ∷ Own (Write 4) (GotValue 3) ∷ Own Take (GotValue 4) ∷ [])

own_passes_then_take : history_of Once 8 own_passes_then_take_inputs ≡ own_passes_then_take_record
own_passes_then_take = refl

own_passes_then_take_door : queue_of Once 8 own_passes_then_take_inputs ≡ None
own_passes_then_take_door = refl

own_passes_then_take_run : IsRun Once 8 own_passes_then_take_record
own_passes_then_take_run = every_run Once 8 own_passes_then_take_inputs (omega arith)

-- the dropped holder of a lazy cell wakes one of two tasks with one waker, which wakes the other; then the cell is taken apart and replaced
abbrev lazy_pass_then_replace_inputs : List Input
lazy_pass_then_replace_inputs =
    newest_first
    (Make 1 ∷ Make 2 ∷ Make 3 ∷ Poll 1 5 ∷ run 1 RanPending ++ Poll 2 7 ∷ run 2 RanPending ++ Poll 3 7
    ∷ run 3 RanPending ++ Drop 1 ∷ run 1 RanPending ++ Drop 2 ∷ run 2 RanPending ++ Poll 3 6 ∷ run 3 RanPending
    ++ Owns Parts ∷ Owns (ReplaceAnswers (None ∷ Some 2 ∷ [])) ∷ Make 4 ∷ Make 5 ∷ Poll 4 5 ∷ run 4 RanPending
    ++ Poll 5 7 ∷ run 5 RanPending ++ Drop 4 ∷ run 4 RanPending ++ Poll 5 7 ∷ run 5 RanPending)

abbrev pub lazy_pass_then_replace_record : List Entry
lazy_pass_then_replace_record =
    newest_first
    (Made 1 ∷ Made 2 ∷ Made 3 ∷ Begin 1 5 ∷ Claim 1 ∷ Ran 1 RanPending ∷ End 1 Pending ∷ Begin 2 7 ∷ End 2 Pending
    ∷ Begin 3 7 ∷ End 3 Pending ∷ DropBegin 1 ∷ Free 1 (7 ∷ []) ∷ DropEnd 1 ∷ DropBegin 2 ∷ Pass 2 (7 ∷ [])
    ∷ DropEnd 2 ∷ Begin 3 6 ∷ Claim 3 ∷ Ran 3 (RanValue 9) ∷ Fill 3 9 [] ∷ End 3 (Value 9)
    ∷ Own Parts (GotValue 9) ∷ Own (ReplaceAnswers (None ∷ Some 2 ∷ [])) GotNone ∷ Made 4 ∷ Made 5 ∷ Begin 4 5
    ∷ Claim 4 ∷ Ran 4 RanPending ∷ End 4 Pending ∷ Begin 5 7 ∷ End 5 Pending ∷ DropBegin 4 ∷ Free 4 (7 ∷ [])
    ∷ DropEnd 4 ∷ Begin 5 7 ∷ Claim 5 ∷ Ran 5 (RanValue 2) ∷ Fill 5 2 [] ∷ End 5 (Value 2) ∷ [])

lazy_pass_then_replace : history_of (Lazy (None ∷ Some 9 ∷ [])) 8 lazy_pass_then_replace_inputs ≡ lazy_pass_then_replace_record
lazy_pass_then_replace = refl

lazy_pass_then_replace_door : queue_of (Lazy (None ∷ Some 9 ∷ [])) 8 lazy_pass_then_replace_inputs ≡ None
lazy_pass_then_replace_door = refl

lazy_pass_then_replace_run : IsRun (Lazy (None ∷ Some 9 ∷ [])) 8 lazy_pass_then_replace_record
lazy_pass_then_replace_run = every_run (Lazy (None ∷ Some 9 ∷ [])) 8 lazy_pass_then_replace_inputs (omega arith)
