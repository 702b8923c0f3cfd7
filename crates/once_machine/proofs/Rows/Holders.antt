-- Rows in which a holder fails or is dropped while others wait.
use Rattle.std.proofs.Common.{◌≡◌, true, List, [], ◌∷◌, ◌++◌, Some, None, refl, arith}
use Rattle.once_machine.specs.Record.{RanPending, RanValue, RanError, Pending, Value, Error, Once, Take, GotNone, Entry, Made, Begin, Claim, Ran, Free, Fill, End, DropBegin, DropEnd, Own}
use Rattle.once_machine.specs.Run.{IsRun}
use Rattle.once_machine.specs.Inputs.{Input, Make, Poll, Drop, Go, Owns}
use Rattle.once_machine.specs.Log.{IsSound}
use Rattle.once_machine.specs.Machine.{EnteredLine, PutLine, TakenLine, history_of, log_of, queue_of}
use Rattle.once_machine.proofs.Input.Headline.{every_run}
use Rattle.once_machine.proofs.Rows.Order.{newest_first, run}

-- a holder fails and wakes the next, which fails and wakes the third: that makes the value
abbrev head_holder_fails_inputs : List Input
head_holder_fails_inputs =
    newest_first
    (Make 1 ∷ Make 2 ∷ Make 3 ∷ Poll 1 5 ∷ run 1 RanPending ++ Poll 2 7 ∷ run 2 RanPending ++ Poll 3 8
    ∷ run 3 RanPending ++ Poll 1 5 ∷ run 1 (RanError 9) ++ Poll 2 7 ∷ run 2 (RanError 4) ++ Poll 3 8
    ∷ run 3 (RanValue 6))

abbrev pub head_holder_fails_record : List Entry
head_holder_fails_record =
    newest_first
    (Made 1 ∷ Made 2 ∷ Made 3 ∷ Begin 1 5 ∷ Claim 1 ∷ Ran 1 RanPending ∷ End 1 Pending ∷ Begin 2 7 ∷ End 2 Pending
    ∷ Begin 3 8 ∷ End 3 Pending ∷ Begin 1 5 ∷ Ran 1 (RanError 9) ∷ Free 1 (7 ∷ []) ∷ End 1 (Error 9) ∷ Begin 2 7
    ∷ Claim 2 ∷ Ran 2 (RanError 4) ∷ Free 2 (8 ∷ []) ∷ End 2 (Error 4) ∷ Begin 3 8 ∷ Claim 3 ∷ Ran 3 (RanValue 6)
    ∷ Fill 3 6 [] ∷ End 3 (Value 6) ∷ [])

head_holder_fails : history_of Once 8 head_holder_fails_inputs ≡ head_holder_fails_record
head_holder_fails = refl

head_holder_fails_door : queue_of Once 8 head_holder_fails_inputs ≡ None
head_holder_fails_door = refl

head_holder_fails_run : IsRun Once 8 head_holder_fails_record
head_holder_fails_run = every_run Once 8 head_holder_fails_inputs (omega arith)

-- a holder is dropped and wakes the next, which is dropped too and wakes the third: that makes the value
abbrev head_holder_dropped_inputs : List Input
head_holder_dropped_inputs =
    newest_first
    (Make 1 ∷ Make 2 ∷ Make 3 ∷ Poll 1 5 ∷ run 1 RanPending ++ Poll 2 7 ∷ run 2 RanPending ++ Poll 3 8
    ∷ run 3 RanPending ++ Drop 1 ∷ run 1 RanPending ++ Poll 2 7 ∷ run 2 RanPending ++ Poll 3 8 ∷ run 3 RanPending
    ++ Drop 2 ∷ run 2 RanPending ++ Poll 3 8 ∷ run 3 (RanValue 6))

abbrev pub head_holder_dropped_record : List Entry
head_holder_dropped_record =
    newest_first
    (Made 1 ∷ Made 2 ∷ Made 3 ∷ Begin 1 5 ∷ Claim 1 ∷ Ran 1 RanPending ∷ End 1 Pending ∷ Begin 2 7 ∷ End 2 Pending
    ∷ Begin 3 8 ∷ End 3 Pending ∷ DropBegin 1 ∷ Free 1 (7 ∷ []) ∷ DropEnd 1 ∷ Begin 2 7 ∷ Claim 2
    ∷ Ran 2 RanPending ∷ End 2 Pending ∷ Begin 3 8 ∷ End 3 Pending ∷ DropBegin 2 ∷ Free 2 (8 ∷ []) ∷ DropEnd 2
    ∷ Begin 3 8 ∷ Claim 3 ∷ Ran 3 (RanValue 6) ∷ Fill 3 6 [] ∷ End 3 (Value 6) ∷ [])

head_holder_dropped : history_of Once 8 head_holder_dropped_inputs ≡ head_holder_dropped_record
head_holder_dropped = refl

head_holder_dropped_door : queue_of Once 8 head_holder_dropped_inputs ≡ None
head_holder_dropped_door = refl

head_holder_dropped_run : IsRun Once 8 head_holder_dropped_record
head_holder_dropped_run = every_run Once 8 head_holder_dropped_inputs (omega arith)

-- a holder is dropped while another task stands between its steps
abbrev holder_dropped_early_inputs : List Input
holder_dropped_early_inputs =
    newest_first
    (Make 1 ∷ Make 2 ∷ Poll 1 5 ∷ run 1 RanPending ++ Poll 2 7 ∷ Go 2 RanPending true ∷ Go 2 RanPending true ∷ Go 2 RanPending true ∷ Drop 1 ∷ run 1 RanPending ++ run 2 (RanValue 3))

abbrev pub holder_dropped_early_record : List Entry
holder_dropped_early_record =
    newest_first
    (Made 1 ∷ Made 2 ∷ Begin 1 5 ∷ Claim 1 ∷ Ran 1 RanPending ∷ End 1 Pending ∷ Begin 2 7 ∷ DropBegin 1 ∷ Free 1 [] ∷ DropEnd 1 ∷ Claim 2 ∷ Ran 2 (RanValue 3) ∷ Fill 2 3 [] ∷ End 2 (Value 3) ∷ [])

holder_dropped_early : history_of Once 8 holder_dropped_early_inputs ≡ holder_dropped_early_record
holder_dropped_early = refl

holder_dropped_early_door : queue_of Once 8 holder_dropped_early_inputs ≡ None
holder_dropped_early_door = refl

holder_dropped_early_run : IsRun Once 8 holder_dropped_early_record
holder_dropped_early_run = every_run Once 8 holder_dropped_early_inputs (omega arith)

-- a holder is dropped when the other task is listed: its waker is handed out
abbrev holder_dropped_late_inputs : List Input
holder_dropped_late_inputs =
    newest_first
    (Make 1 ∷ Make 2 ∷ Poll 1 5 ∷ run 1 RanPending ++ Poll 2 7 ∷ Go 2 RanPending true ∷ Go 2 RanPending true
    ∷ Go 2 RanPending true ∷ Go 2 RanPending true ∷ Go 2 RanPending true ∷ Go 2 RanPending true
    ∷ Go 2 RanPending true ∷ Drop 1 ∷ run 1 RanPending ++ run 2 (RanValue 3))

abbrev pub holder_dropped_late_record : List Entry
holder_dropped_late_record = newest_first (Made 1 ∷ Made 2 ∷ Begin 1 5 ∷ Claim 1 ∷ Ran 1 RanPending ∷ End 1 Pending ∷ Begin 2 7 ∷ End 2 Pending ∷ DropBegin 1 ∷ Free 1 (7 ∷ []) ∷ DropEnd 1 ∷ [])

holder_dropped_late : history_of Once 8 holder_dropped_late_inputs ≡ holder_dropped_late_record
holder_dropped_late = refl

holder_dropped_late_door : queue_of Once 8 holder_dropped_late_inputs ≡ Some 1
holder_dropped_late_door = refl

holder_dropped_late_run : IsRun Once 8 holder_dropped_late_record
holder_dropped_late_run = every_run Once 8 holder_dropped_late_inputs (omega arith)

-- after the owner took the cell a second queue is put, with the next number
abbrev second_queue_inputs : List Input
second_queue_inputs =
    newest_first
    (Make 1 ∷ Make 2 ∷ Poll 1 5 ∷ run 1 RanPending ++ Poll 2 7 ∷ run 2 RanPending ++ Drop 2 ∷ run 2 RanPending
    ++ Drop 1 ∷ run 1 RanPending ++ Owns Take ∷ Make 3 ∷ Make 4 ∷ Poll 3 5 ∷ run 3 RanPending ++ Poll 4 7
    ∷ run 4 RanPending)

abbrev pub second_queue_record : List Entry
second_queue_record =
    newest_first
    (Made 1 ∷ Made 2 ∷ Begin 1 5 ∷ Claim 1 ∷ Ran 1 RanPending ∷ End 1 Pending ∷ Begin 2 7 ∷ End 2 Pending
    ∷ DropBegin 2 ∷ DropEnd 2 ∷ DropBegin 1 ∷ Free 1 [] ∷ DropEnd 1 ∷ Own Take GotNone ∷ Made 3 ∷ Made 4
    ∷ Begin 3 5 ∷ Claim 3 ∷ Ran 3 RanPending ∷ End 3 Pending ∷ Begin 4 7 ∷ End 4 Pending ∷ [])

second_queue : history_of Once 8 second_queue_inputs ≡ second_queue_record
second_queue = refl

second_queue_door : queue_of Once 8 second_queue_inputs ≡ Some 2
second_queue_door = refl

second_queue_run : IsRun Once 8 second_queue_record
second_queue_run = every_run Once 8 second_queue_inputs (omega arith)

second_queue_log : log_of Once 8 second_queue_inputs ≡ newest_first (PutLine 1 ∷ EnteredLine 1 ∷ EnteredLine 1 ∷ EnteredLine 1 ∷ TakenLine 1 ∷ PutLine 2 ∷ EnteredLine 2 ∷ EnteredLine 2 ∷ [])
second_queue_log = refl

second_queue_sound : IsSound (log_of Once 8 second_queue_inputs)
second_queue_sound = (refl, (refl, (refl, refl, (refl, (refl, (refl, (refl, (refl, refl, tt))))))))
