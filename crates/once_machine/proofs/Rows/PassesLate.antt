-- Rows in which a task leaves while another is about to release, or after the value is set.
use Rattle.std.proofs.Common.{◌≡◌, true, false, List, [], ◌∷◌, ◌++◌, Some, None, refl, arith}
use Rattle.once_machine.specs.Record.{RanPending, RanValue, Pending, Value, Memory, Once, Entry, Made, Begin, Claim, Ran, Free, Fill, Pass, End, DropBegin, DropEnd}
use Rattle.once_machine.specs.Run.{IsRun}
use Rattle.once_machine.specs.Inputs.{Input, Make, Poll, Drop, Go}
use Rattle.once_machine.specs.Log.{IsSound}
use Rattle.once_machine.specs.Machine.{EnteredLine, PutLine, TakenLine, history_of, log_of, queue_of}
use Rattle.once_machine.proofs.Input.Headline.{every_run}
use Rattle.once_machine.proofs.Rows.Order.{newest_first, run, steps}

-- the holder and a waiting task are dropped at once: the waiting one is out of the list before the release, which wakes the next
abbrev two_drops_at_once_before_inputs : List Input
two_drops_at_once_before_inputs =
    newest_first
    (Make 1 ∷ Make 2 ∷ Make 3 ∷ Poll 1 5 ∷ run 1 RanPending ++ Poll 2 7 ∷ run 2 RanPending ++ Poll 3 8
    ∷ run 3 RanPending ++ Drop 1 ∷ Drop 2 ∷ steps 3 1 RanPending ++ run 2 RanPending ++ run 1 RanPending)

abbrev pub two_drops_at_once_before_record : List Entry
two_drops_at_once_before_record =
    newest_first
    (Made 1 ∷ Made 2 ∷ Made 3 ∷ Begin 1 5 ∷ Claim 1 ∷ Ran 1 RanPending ∷ End 1 Pending ∷ Begin 2 7 ∷ End 2 Pending
    ∷ Begin 3 8 ∷ End 3 Pending ∷ DropBegin 1 ∷ DropBegin 2 ∷ DropEnd 2 ∷ Free 1 (8 ∷ []) ∷ DropEnd 1 ∷ [])

two_drops_at_once_before : history_of Once 8 two_drops_at_once_before_inputs ≡ two_drops_at_once_before_record
two_drops_at_once_before = refl

two_drops_at_once_before_door : queue_of Once 8 two_drops_at_once_before_inputs ≡ Some 1
two_drops_at_once_before_door = refl

two_drops_at_once_before_run : IsRun Once 8 two_drops_at_once_before_record
two_drops_at_once_before_run = every_run Once 8 two_drops_at_once_before_inputs (omega arith)

-- the same, and the release comes first: it wakes the task in its drop, which wakes the next
abbrev two_drops_at_once_after_inputs : List Input
two_drops_at_once_after_inputs =
    newest_first
    (Make 1 ∷ Make 2 ∷ Make 3 ∷ Poll 1 5 ∷ run 1 RanPending ++ Poll 2 7 ∷ run 2 RanPending ++ Poll 3 8
    ∷ run 3 RanPending ++ Drop 1 ∷ Drop 2 ∷ steps 4 1 RanPending ++ run 2 RanPending ++ run 1 RanPending)

abbrev pub two_drops_at_once_after_record : List Entry
two_drops_at_once_after_record =
    newest_first
    (Made 1 ∷ Made 2 ∷ Made 3 ∷ Begin 1 5 ∷ Claim 1 ∷ Ran 1 RanPending ∷ End 1 Pending ∷ Begin 2 7 ∷ End 2 Pending
    ∷ Begin 3 8 ∷ End 3 Pending ∷ DropBegin 1 ∷ DropBegin 2 ∷ Free 1 (7 ∷ []) ∷ Pass 2 (8 ∷ []) ∷ DropEnd 2
    ∷ DropEnd 1 ∷ [])

two_drops_at_once_after : history_of Once 8 two_drops_at_once_after_inputs ≡ two_drops_at_once_after_record
two_drops_at_once_after = refl

two_drops_at_once_after_door : queue_of Once 8 two_drops_at_once_after_inputs ≡ Some 1
two_drops_at_once_after_door = refl

two_drops_at_once_after_run : IsRun Once 8 two_drops_at_once_after_record
two_drops_at_once_after_run = every_run Once 8 two_drops_at_once_after_inputs (omega arith)

-- the same, and the turn is passed on when the holder is gone
abbrev two_drops_at_once_gone_inputs : List Input
two_drops_at_once_gone_inputs =
    newest_first
    (Make 1 ∷ Make 2 ∷ Make 3 ∷ Poll 1 5 ∷ run 1 RanPending ++ Poll 2 7 ∷ run 2 RanPending ++ Poll 3 8
    ∷ run 3 RanPending ++ Drop 1 ∷ Drop 2 ∷ steps 5 1 RanPending ++ run 2 RanPending ++ run 1 RanPending)

abbrev pub two_drops_at_once_gone_record : List Entry
two_drops_at_once_gone_record =
    newest_first
    (Made 1 ∷ Made 2 ∷ Made 3 ∷ Begin 1 5 ∷ Claim 1 ∷ Ran 1 RanPending ∷ End 1 Pending ∷ Begin 2 7 ∷ End 2 Pending
    ∷ Begin 3 8 ∷ End 3 Pending ∷ DropBegin 1 ∷ DropBegin 2 ∷ Free 1 (7 ∷ []) ∷ DropEnd 1 ∷ Pass 2 (8 ∷ [])
    ∷ DropEnd 2 ∷ [])

two_drops_at_once_gone : history_of Once 8 two_drops_at_once_gone_inputs ≡ two_drops_at_once_gone_record
two_drops_at_once_gone = refl

two_drops_at_once_gone_door : queue_of Once 8 two_drops_at_once_gone_inputs ≡ Some 1
two_drops_at_once_gone_door = refl

two_drops_at_once_gone_run : IsRun Once 8 two_drops_at_once_gone_record
two_drops_at_once_gone_run = every_run Once 8 two_drops_at_once_gone_inputs (omega arith)

-- a waiting task is dropped after the fill: it enters the queue before it counts out, and two steps do not end its drop
abbrev drop_not_over_inputs : List Input
drop_not_over_inputs = newest_first (Make 1 ∷ Make 2 ∷ Poll 1 5 ∷ run 1 RanPending ++ Poll 2 7 ∷ run 2 RanPending ++ Poll 1 5 ∷ run 1 (RanValue 4) ++ Drop 2 ∷ steps 2 2 RanPending)

abbrev pub drop_not_over_record : List Entry
drop_not_over_record =
    newest_first
    (Made 1 ∷ Made 2 ∷ Begin 1 5 ∷ Claim 1 ∷ Ran 1 RanPending ∷ End 1 Pending ∷ Begin 2 7 ∷ End 2 Pending ∷ Begin 1 5 ∷ Ran 1 (RanValue 4) ∷ Fill 1 4 (7 ∷ []) ∷ End 1 (Value 4) ∷ DropBegin 2 ∷ [])

drop_not_over : history_of Once 8 drop_not_over_inputs ≡ drop_not_over_record
drop_not_over = refl

drop_not_over_door : queue_of Once 8 drop_not_over_inputs ≡ Some 1
drop_not_over_door = refl

drop_not_over_run : IsRun Once 8 drop_not_over_record
drop_not_over_run = every_run Once 8 drop_not_over_inputs (omega arith)

drop_not_over_log : log_of Once 8 drop_not_over_inputs ≡ newest_first (PutLine 1 ∷ EnteredLine 1 ∷ EnteredLine 1 ∷ EnteredLine 1 ∷ EnteredLine 1 ∷ [])
drop_not_over_log = refl

drop_not_over_sound : IsSound (log_of Once 8 drop_not_over_inputs)
drop_not_over_sound = (refl, (refl, (refl, (refl, (refl, refl, tt)))))

-- a task is refused memory, and the value is set before it leaves: it wakes nobody, and takes the queue out
abbrev refused_then_set_inputs : List Input
refused_then_set_inputs =
    newest_first
    (Make 1 ∷ Make 2 ∷ Poll 1 5 ∷ run 1 RanPending ++ Poll 2 7 ∷ run 2 RanPending ++ Poll 2 6 ∷ Go 2 RanPending true ∷ Go 2 RanPending false ∷ Poll 1 5 ∷ run 1 (RanValue 4) ++ run 2 RanPending)

abbrev pub refused_then_set_record : List Entry
refused_then_set_record =
    newest_first
    (Made 1 ∷ Made 2 ∷ Begin 1 5 ∷ Claim 1 ∷ Ran 1 RanPending ∷ End 1 Pending ∷ Begin 2 7 ∷ End 2 Pending ∷ Begin 2 6
    ∷ Begin 1 5 ∷ Ran 1 (RanValue 4) ∷ Fill 1 4 (7 ∷ []) ∷ End 1 (Value 4) ∷ End 2 Memory ∷ [])

refused_then_set : history_of Once 8 refused_then_set_inputs ≡ refused_then_set_record
refused_then_set = refl

refused_then_set_door : queue_of Once 8 refused_then_set_inputs ≡ None
refused_then_set_door = refl

refused_then_set_run : IsRun Once 8 refused_then_set_record
refused_then_set_run = every_run Once 8 refused_then_set_inputs (omega arith)

refused_then_set_log : log_of Once 8 refused_then_set_inputs ≡ newest_first (PutLine 1 ∷ EnteredLine 1 ∷ EnteredLine 1 ∷ EnteredLine 1 ∷ EnteredLine 1 ∷ EnteredLine 1 ∷ TakenLine 1 ∷ [])
refused_then_set_log = refl

refused_then_set_sound : IsSound (log_of Once 8 refused_then_set_inputs)
refused_then_set_sound = (refl, (refl, (refl, (refl, (refl, (refl, (refl, refl, tt)))))))
