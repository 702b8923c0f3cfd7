-- Rows in which one task makes the value, or frees the cell.
use Rattle.std.proofs.Common.{◌≡◌, List, [], ◌∷◌, ◌++◌, Some, None, refl, arith}
use Rattle.once_machine.specs.Record.{RanPending, RanValue, RanError, Pending, Value, Once, Entry, Made, Begin, Claim, Ran, Fill, End, DropBegin, DropEnd}
use Rattle.once_machine.specs.Run.{IsRun}
use Rattle.once_machine.specs.Inputs.{Input, Make, Poll, Drop}
use Rattle.once_machine.specs.Machine.{history_of, queue_of}
use Rattle.once_machine.proofs.Input.Headline.{every_run}
use Rattle.once_machine.proofs.Rows.Order.{newest_first, run, steps}

-- one task makes the value in its first poll, and a later task finds it
abbrev plain_path_inputs : List Input
plain_path_inputs = newest_first (Make 1 ∷ Poll 1 7 ∷ run 1 (RanValue 4) ++ Make 2 ∷ Poll 2 7 ∷ run 2 (RanError 9))

abbrev pub plain_path_record : List Entry
plain_path_record = newest_first (Made 1 ∷ Begin 1 7 ∷ Claim 1 ∷ Ran 1 (RanValue 4) ∷ Fill 1 4 [] ∷ End 1 (Value 4) ∷ Made 2 ∷ Begin 2 7 ∷ End 2 (Value 4) ∷ [])

plain_path : history_of Once 8 plain_path_inputs ≡ plain_path_record
plain_path = refl

plain_path_door : queue_of Once 8 plain_path_inputs ≡ None
plain_path_door = refl

plain_path_run : IsRun Once 8 plain_path_record
plain_path_run = every_run Once 8 plain_path_inputs (omega arith)

-- a task waits while another holds, polls again with the same waker, and finds the value when it was woken
abbrev slow_path_inputs : List Input
slow_path_inputs =
    newest_first
    (Make 1 ∷ Make 2 ∷ Poll 1 7 ∷ run 1 RanPending ++ Poll 2 7 ∷ run 2 (RanError 9) ++ Poll 2 7 ∷ run 2 (RanError 9) ++ Poll 1 7 ∷ run 1 (RanValue 2) ++ Poll 2 7 ∷ run 2 (RanError 9))

abbrev pub slow_path_record : List Entry
slow_path_record =
    newest_first
    (Made 1 ∷ Made 2 ∷ Begin 1 7 ∷ Claim 1 ∷ Ran 1 RanPending ∷ End 1 Pending ∷ Begin 2 7 ∷ End 2 Pending ∷ Begin 2 7
    ∷ End 2 Pending ∷ Begin 1 7 ∷ Ran 1 (RanValue 2) ∷ Fill 1 2 (7 ∷ []) ∷ End 1 (Value 2) ∷ Begin 2 7
    ∷ End 2 (Value 2) ∷ [])

slow_path : history_of Once 8 slow_path_inputs ≡ slow_path_record
slow_path = refl

slow_path_door : queue_of Once 8 slow_path_inputs ≡ None
slow_path_door = refl

slow_path_run : IsRun Once 8 slow_path_record
slow_path_run = every_run Once 8 slow_path_inputs (omega arith)

-- a task that waits polls again with another waker: the newer one alone is handed out
abbrev changed_waker_inputs : List Input
changed_waker_inputs = newest_first (Make 1 ∷ Make 2 ∷ Poll 1 5 ∷ run 1 RanPending ++ Poll 2 7 ∷ run 2 RanPending ++ Poll 2 8 ∷ run 2 RanPending ++ Poll 1 5 ∷ run 1 (RanValue 3))

abbrev pub changed_waker_record : List Entry
changed_waker_record =
    newest_first
    (Made 1 ∷ Made 2 ∷ Begin 1 5 ∷ Claim 1 ∷ Ran 1 RanPending ∷ End 1 Pending ∷ Begin 2 7 ∷ End 2 Pending ∷ Begin 2 8
    ∷ End 2 Pending ∷ Begin 1 5 ∷ Ran 1 (RanValue 3) ∷ Fill 1 3 (8 ∷ []) ∷ End 1 (Value 3) ∷ [])

changed_waker : history_of Once 8 changed_waker_inputs ≡ changed_waker_record
changed_waker = refl

changed_waker_door : queue_of Once 8 changed_waker_inputs ≡ Some 1
changed_waker_door = refl

changed_waker_run : IsRun Once 8 changed_waker_record
changed_waker_run = every_run Once 8 changed_waker_inputs (omega arith)

-- a waiting task is dropped after the fill: as the last one out it takes the queue away
abbrev dropped_after_the_fill_inputs : List Input
dropped_after_the_fill_inputs = newest_first (Make 1 ∷ Make 2 ∷ Poll 1 5 ∷ run 1 RanPending ++ Poll 2 7 ∷ run 2 RanPending ++ Poll 1 5 ∷ run 1 (RanValue 4) ++ Drop 2 ∷ steps 3 2 RanPending)

abbrev pub dropped_after_the_fill_record : List Entry
dropped_after_the_fill_record =
    newest_first
    (Made 1 ∷ Made 2 ∷ Begin 1 5 ∷ Claim 1 ∷ Ran 1 RanPending ∷ End 1 Pending ∷ Begin 2 7 ∷ End 2 Pending ∷ Begin 1 5
    ∷ Ran 1 (RanValue 4) ∷ Fill 1 4 (7 ∷ []) ∷ End 1 (Value 4) ∷ DropBegin 2 ∷ DropEnd 2 ∷ [])

dropped_after_the_fill : history_of Once 8 dropped_after_the_fill_inputs ≡ dropped_after_the_fill_record
dropped_after_the_fill = refl

dropped_after_the_fill_door : queue_of Once 8 dropped_after_the_fill_inputs ≡ None
dropped_after_the_fill_door = refl

dropped_after_the_fill_run : IsRun Once 8 dropped_after_the_fill_record
dropped_after_the_fill_run = every_run Once 8 dropped_after_the_fill_inputs (omega arith)
