-- Rows in which a task comes late: it looked before another step, and goes on after it.
use Rattle.std.proofs.Common.{◌≡◌, true, List, [], ◌∷◌, ◌++◌, None, refl, arith}
use Rattle.once_machine.specs.Record.{RanPending, RanValue, RanError, Pending, Value, Error, Once, Entry, Made, Begin, Claim, Ran, Free, Fill, End, DropBegin, DropEnd}
use Rattle.once_machine.specs.Run.{IsRun}
use Rattle.once_machine.specs.Inputs.{Input, Make, Poll, Drop, Go}
use Rattle.once_machine.specs.Log.{IsSound}
use Rattle.once_machine.specs.Machine.{EnteredLine, PutLine, TakenLine, history_of, log_of, queue_of}
use Rattle.once_machine.proofs.Input.Headline.{every_run}
use Rattle.once_machine.proofs.Rows.Order.{newest_first, run}

-- a task puts a queue just before the holder fills the cell and takes the queue out
abbrev late_queue_inputs : List Input
late_queue_inputs = newest_first (Make 1 ∷ Make 2 ∷ Poll 1 5 ∷ run 1 RanPending ++ Poll 2 7 ∷ Go 2 RanPending true ∷ Go 2 RanPending true ∷ Poll 1 5 ∷ run 1 (RanValue 4) ++ run 2 RanPending)

abbrev pub late_queue_record : List Entry
late_queue_record =
    newest_first
    (Made 1 ∷ Made 2 ∷ Begin 1 5 ∷ Claim 1 ∷ Ran 1 RanPending ∷ End 1 Pending ∷ Begin 2 7 ∷ Begin 1 5 ∷ Ran 1 (RanValue 4) ∷ Fill 1 4 [] ∷ End 1 (Value 4) ∷ End 2 (Value 4) ∷ [])

late_queue : history_of Once 8 late_queue_inputs ≡ late_queue_record
late_queue = refl

late_queue_door : queue_of Once 8 late_queue_inputs ≡ None
late_queue_door = refl

late_queue_run : IsRun Once 8 late_queue_record
late_queue_run = every_run Once 8 late_queue_inputs (omega arith)

late_queue_log : log_of Once 8 late_queue_inputs ≡ newest_first (PutLine 1 ∷ TakenLine 1 ∷ [])
late_queue_log = refl

late_queue_sound : IsSound (log_of Once 8 late_queue_inputs)
late_queue_sound = (refl, (refl, refl, tt))

-- the same at the limit: the task that finds no room sees that the value is set
abbrev late_queue_at_limit_inputs : List Input
late_queue_at_limit_inputs =
    newest_first
    (Make 1 ∷ Make 2 ∷ Make 3 ∷ Poll 1 5 ∷ run 1 RanPending ++ Poll 2 7 ∷ run 2 RanPending ++ Poll 3 9
    ∷ Go 3 RanPending true ∷ Go 3 RanPending true ∷ Poll 1 5 ∷ run 1 (RanValue 4) ++ run 3 RanPending ++ Poll 2 7
    ∷ run 2 RanPending)

abbrev pub late_queue_at_limit_record : List Entry
late_queue_at_limit_record =
    newest_first
    (Made 1 ∷ Made 2 ∷ Made 3 ∷ Begin 1 5 ∷ Claim 1 ∷ Ran 1 RanPending ∷ End 1 Pending ∷ Begin 2 7 ∷ End 2 Pending
    ∷ Begin 3 9 ∷ Begin 1 5 ∷ Ran 1 (RanValue 4) ∷ Fill 1 4 (7 ∷ []) ∷ End 1 (Value 4) ∷ End 3 (Value 4)
    ∷ Begin 2 7 ∷ End 2 (Value 4) ∷ [])

late_queue_at_limit : history_of Once 1 late_queue_at_limit_inputs ≡ late_queue_at_limit_record
late_queue_at_limit = refl

late_queue_at_limit_door : queue_of Once 1 late_queue_at_limit_inputs ≡ None
late_queue_at_limit_door = refl

late_queue_at_limit_run : IsRun Once 1 late_queue_at_limit_record
late_queue_at_limit_run = every_run Once 1 late_queue_at_limit_inputs (omega arith)

late_queue_at_limit_log : log_of Once 1 late_queue_at_limit_inputs ≡ newest_first (PutLine 1 ∷ EnteredLine 1 ∷ EnteredLine 1 ∷ EnteredLine 1 ∷ TakenLine 1 ∷ [])
late_queue_at_limit_log = refl

late_queue_at_limit_sound : IsSound (log_of Once 1 late_queue_at_limit_inputs)
late_queue_at_limit_sound = (refl, (refl, (refl, (refl, (refl, refl, tt)))))

-- a holder fails while a task stands before the count: nobody is listed, and that task claims the right
abbrev lost_wake_inputs : List Input
lost_wake_inputs =
    newest_first
    (Make 1 ∷ Make 2 ∷ Make 3 ∷ Poll 1 5 ∷ run 1 RanPending ++ Poll 2 7 ∷ run 2 RanPending ++ Drop 2
    ∷ run 2 RanPending ++ Poll 3 9 ∷ Go 3 RanPending true ∷ Poll 1 5 ∷ run 1 (RanError 5) ++ run 3 (RanValue 6))

abbrev pub lost_wake_record : List Entry
lost_wake_record =
    newest_first
    (Made 1 ∷ Made 2 ∷ Made 3 ∷ Begin 1 5 ∷ Claim 1 ∷ Ran 1 RanPending ∷ End 1 Pending ∷ Begin 2 7 ∷ End 2 Pending
    ∷ DropBegin 2 ∷ DropEnd 2 ∷ Begin 3 9 ∷ Begin 1 5 ∷ Ran 1 (RanError 5) ∷ Free 1 [] ∷ End 1 (Error 5)
    ∷ Claim 3 ∷ Ran 3 (RanValue 6) ∷ Fill 3 6 [] ∷ End 3 (Value 6) ∷ [])

lost_wake : history_of Once 8 lost_wake_inputs ≡ lost_wake_record
lost_wake = refl

lost_wake_door : queue_of Once 8 lost_wake_inputs ≡ None
lost_wake_door = refl

lost_wake_run : IsRun Once 8 lost_wake_record
lost_wake_run = every_run Once 8 lost_wake_inputs (omega arith)

-- a task that saw the new cell loses the quick claim, waits, and is woken by the holder's drop
abbrev lost_quick_claim_inputs : List Input
lost_quick_claim_inputs =
    newest_first
    (Make 1 ∷ Make 2 ∷ Poll 1 5 ∷ Go 1 RanPending true ∷ Poll 2 7 ∷ Go 2 RanPending true ∷ run 1 RanPending ++ run 2 RanPending ++ Drop 1 ∷ run 1 RanPending ++ Poll 2 7 ∷ run 2 (RanValue 3))

abbrev pub lost_quick_claim_record : List Entry
lost_quick_claim_record =
    newest_first
    (Made 1 ∷ Made 2 ∷ Begin 1 5 ∷ Begin 2 7 ∷ Claim 1 ∷ Ran 1 RanPending ∷ End 1 Pending ∷ End 2 Pending
    ∷ DropBegin 1 ∷ Free 1 (7 ∷ []) ∷ DropEnd 1 ∷ Begin 2 7 ∷ Claim 2 ∷ Ran 2 (RanValue 3) ∷ Fill 2 3 []
    ∷ End 2 (Value 3) ∷ [])

lost_quick_claim : history_of Once 8 lost_quick_claim_inputs ≡ lost_quick_claim_record
lost_quick_claim = refl

lost_quick_claim_door : queue_of Once 8 lost_quick_claim_inputs ≡ None
lost_quick_claim_door = refl

lost_quick_claim_run : IsRun Once 8 lost_quick_claim_record
lost_quick_claim_run = every_run Once 8 lost_quick_claim_inputs (omega arith)

lost_quick_claim_log : log_of Once 8 lost_quick_claim_inputs ≡ newest_first (PutLine 1 ∷ EnteredLine 1 ∷ EnteredLine 1 ∷ EnteredLine 1 ∷ EnteredLine 1 ∷ EnteredLine 1 ∷ TakenLine 1 ∷ [])
lost_quick_claim_log = refl

lost_quick_claim_sound : IsSound (log_of Once 8 lost_quick_claim_inputs)
lost_quick_claim_sound = (refl, (refl, (refl, (refl, (refl, (refl, (refl, refl, tt)))))))
