-- Rows in which a task that waits leaves: one that was woken passes its turn on.
use Rattle.std.proofs.Common.{◌≡◌, true, false, List, [], ◌∷◌, ◌++◌, Some, None, refl, arith}
use Rattle.once_machine.specs.Record.{RanPending, RanValue, RanError, Pending, Value, Error, Memory, Once, Entry, Made, Begin, Claim, Ran, Free, Fill, Pass, End, DropBegin, DropEnd}
use Rattle.once_machine.specs.Run.{IsRun}
use Rattle.once_machine.specs.Inputs.{Input, Make, Poll, Drop, Go}
use Rattle.once_machine.specs.Log.{IsSound}
use Rattle.once_machine.specs.Machine.{EnteredLine, PutLine, TakenLine, history_of, log_of, queue_of}
use Rattle.once_machine.proofs.Input.Headline.{every_run}
use Rattle.once_machine.proofs.Rows.Order.{newest_first, run}

-- a woken task is dropped, and wakes the next: that task makes the value
abbrev called_waiter_leaves_inputs : List Input
called_waiter_leaves_inputs =
    newest_first
    (Make 1 ∷ Make 2 ∷ Make 3 ∷ Poll 1 5 ∷ run 1 RanPending ++ Poll 2 7 ∷ run 2 RanPending ++ Poll 3 8
    ∷ run 3 RanPending ++ Poll 1 5 ∷ run 1 (RanError 9) ++ Drop 2 ∷ run 2 RanPending ++ Poll 3 8
    ∷ run 3 (RanValue 4))

abbrev pub called_waiter_leaves_record : List Entry
called_waiter_leaves_record =
    newest_first
    (Made 1 ∷ Made 2 ∷ Made 3 ∷ Begin 1 5 ∷ Claim 1 ∷ Ran 1 RanPending ∷ End 1 Pending ∷ Begin 2 7 ∷ End 2 Pending
    ∷ Begin 3 8 ∷ End 3 Pending ∷ Begin 1 5 ∷ Ran 1 (RanError 9) ∷ Free 1 (7 ∷ []) ∷ End 1 (Error 9)
    ∷ DropBegin 2 ∷ Pass 2 (8 ∷ []) ∷ DropEnd 2 ∷ Begin 3 8 ∷ Claim 3 ∷ Ran 3 (RanValue 4) ∷ Fill 3 4 []
    ∷ End 3 (Value 4) ∷ [])

called_waiter_leaves : history_of Once 8 called_waiter_leaves_inputs ≡ called_waiter_leaves_record
called_waiter_leaves = refl

called_waiter_leaves_door : queue_of Once 8 called_waiter_leaves_inputs ≡ None
called_waiter_leaves_door = refl

called_waiter_leaves_run : IsRun Once 8 called_waiter_leaves_record
called_waiter_leaves_run = every_run Once 8 called_waiter_leaves_inputs (omega arith)

called_waiter_leaves_log : log_of Once 8 called_waiter_leaves_inputs ≡ newest_first
    (PutLine 1 ∷ EnteredLine 1 ∷ EnteredLine 1 ∷ EnteredLine 1 ∷ EnteredLine 1 ∷ EnteredLine 1 ∷ EnteredLine 1
    ∷ EnteredLine 1 ∷ EnteredLine 1 ∷ TakenLine 1 ∷ [])
called_waiter_leaves_log = refl

called_waiter_leaves_sound : IsSound (log_of Once 8 called_waiter_leaves_inputs)
called_waiter_leaves_sound = (refl, (refl, (refl, (refl, (refl, (refl, (refl, (refl, (refl, (refl, refl, tt))))))))))

-- a task is refused memory, is woken before it leaves, and wakes the next
abbrev called_waiter_refused_inputs : List Input
called_waiter_refused_inputs =
    newest_first
    (Make 1 ∷ Make 2 ∷ Make 3 ∷ Poll 1 5 ∷ run 1 RanPending ++ Poll 2 7 ∷ run 2 RanPending ++ Poll 3 8
    ∷ run 3 RanPending ++ Poll 2 6 ∷ Go 2 RanPending true ∷ Go 2 RanPending false ∷ Poll 1 5 ∷ run 1 (RanError 9)
    ++ run 2 RanPending)

abbrev pub called_waiter_refused_record : List Entry
called_waiter_refused_record =
    newest_first
    (Made 1 ∷ Made 2 ∷ Made 3 ∷ Begin 1 5 ∷ Claim 1 ∷ Ran 1 RanPending ∷ End 1 Pending ∷ Begin 2 7 ∷ End 2 Pending
    ∷ Begin 3 8 ∷ End 3 Pending ∷ Begin 2 6 ∷ Begin 1 5 ∷ Ran 1 (RanError 9) ∷ Free 1 (7 ∷ []) ∷ End 1 (Error 9)
    ∷ Pass 2 (8 ∷ []) ∷ End 2 Memory ∷ [])

called_waiter_refused : history_of Once 8 called_waiter_refused_inputs ≡ called_waiter_refused_record
called_waiter_refused = refl

called_waiter_refused_door : queue_of Once 8 called_waiter_refused_inputs ≡ Some 1
called_waiter_refused_door = refl

called_waiter_refused_run : IsRun Once 8 called_waiter_refused_record
called_waiter_refused_run = every_run Once 8 called_waiter_refused_inputs (omega arith)

called_waiter_refused_log : log_of Once 8 called_waiter_refused_inputs ≡ newest_first
    (PutLine 1 ∷ EnteredLine 1 ∷ EnteredLine 1 ∷ EnteredLine 1 ∷ EnteredLine 1 ∷ EnteredLine 1 ∷ EnteredLine 1
    ∷ EnteredLine 1 ∷ [])
called_waiter_refused_log = refl

called_waiter_refused_sound : IsSound (log_of Once 8 called_waiter_refused_inputs)
called_waiter_refused_sound = (refl, (refl, (refl, (refl, (refl, (refl, (refl, (refl, refl, tt))))))))

-- a task that was not woken is refused memory, and wakes nobody: the failure wakes the next
abbrev refused_and_not_called_inputs : List Input
refused_and_not_called_inputs =
    newest_first
    (Make 1 ∷ Make 2 ∷ Make 3 ∷ Poll 1 5 ∷ run 1 RanPending ++ Poll 2 7 ∷ run 2 RanPending ++ Poll 3 8
    ∷ run 3 RanPending ++ Poll 2 6 ∷ Go 2 RanPending true ∷ Go 2 RanPending false ∷ run 2 RanPending ++ Poll 1 5
    ∷ run 1 (RanError 9))

abbrev pub refused_and_not_called_record : List Entry
refused_and_not_called_record =
    newest_first
    (Made 1 ∷ Made 2 ∷ Made 3 ∷ Begin 1 5 ∷ Claim 1 ∷ Ran 1 RanPending ∷ End 1 Pending ∷ Begin 2 7 ∷ End 2 Pending
    ∷ Begin 3 8 ∷ End 3 Pending ∷ Begin 2 6 ∷ End 2 Memory ∷ Begin 1 5 ∷ Ran 1 (RanError 9) ∷ Free 1 (8 ∷ [])
    ∷ End 1 (Error 9) ∷ [])

refused_and_not_called : history_of Once 8 refused_and_not_called_inputs ≡ refused_and_not_called_record
refused_and_not_called = refl

refused_and_not_called_door : queue_of Once 8 refused_and_not_called_inputs ≡ Some 1
refused_and_not_called_door = refl

refused_and_not_called_run : IsRun Once 8 refused_and_not_called_record
refused_and_not_called_run = every_run Once 8 refused_and_not_called_inputs (omega arith)

-- a task that was not woken is dropped and wakes nobody; the woken one is dropped and wakes the next
abbrev only_a_called_waiter_passes_on_inputs : List Input
only_a_called_waiter_passes_on_inputs =
    newest_first
    (Make 1 ∷ Make 2 ∷ Make 3 ∷ Make 4 ∷ Poll 1 5 ∷ run 1 RanPending ++ Poll 2 7 ∷ run 2 RanPending ++ Poll 3 8
    ∷ run 3 RanPending ++ Poll 4 9 ∷ run 4 RanPending ++ Poll 1 5 ∷ run 1 (RanError 9) ++ Drop 3
    ∷ run 3 RanPending ++ Drop 2 ∷ run 2 RanPending)

abbrev pub only_a_called_waiter_passes_on_record : List Entry
only_a_called_waiter_passes_on_record =
    newest_first
    (Made 1 ∷ Made 2 ∷ Made 3 ∷ Made 4 ∷ Begin 1 5 ∷ Claim 1 ∷ Ran 1 RanPending ∷ End 1 Pending ∷ Begin 2 7
    ∷ End 2 Pending ∷ Begin 3 8 ∷ End 3 Pending ∷ Begin 4 9 ∷ End 4 Pending ∷ Begin 1 5 ∷ Ran 1 (RanError 9)
    ∷ Free 1 (7 ∷ []) ∷ End 1 (Error 9) ∷ DropBegin 3 ∷ DropEnd 3 ∷ DropBegin 2 ∷ Pass 2 (9 ∷ []) ∷ DropEnd 2
    ∷ [])

only_a_called_waiter_passes_on : history_of Once 8 only_a_called_waiter_passes_on_inputs ≡ only_a_called_waiter_passes_on_record
only_a_called_waiter_passes_on = refl

only_a_called_waiter_passes_on_door : queue_of Once 8 only_a_called_waiter_passes_on_inputs ≡ Some 1
only_a_called_waiter_passes_on_door = refl

only_a_called_waiter_passes_on_run : IsRun Once 8 only_a_called_waiter_passes_on_record
only_a_called_waiter_passes_on_run = every_run Once 8 only_a_called_waiter_passes_on_inputs (omega arith)

-- a woken task is dropped while another holds, and wakes nobody: the failure of that holder wakes the next
abbrev no_pass_while_a_head_holds_inputs : List Input
no_pass_while_a_head_holds_inputs =
    newest_first
    (Make 1 ∷ Make 2 ∷ Make 3 ∷ Make 4 ∷ Poll 1 5 ∷ run 1 RanPending ++ Poll 2 7 ∷ run 2 RanPending ++ Poll 3 8
    ∷ run 3 RanPending ++ Poll 1 5 ∷ run 1 (RanError 9) ++ Poll 4 6 ∷ run 4 RanPending ++ Drop 2
    ∷ run 2 RanPending ++ Poll 4 6 ∷ run 4 (RanError 9))

abbrev pub no_pass_while_a_head_holds_record : List Entry
no_pass_while_a_head_holds_record =
    newest_first
    (Made 1 ∷ Made 2 ∷ Made 3 ∷ Made 4 ∷ Begin 1 5 ∷ Claim 1 ∷ Ran 1 RanPending ∷ End 1 Pending ∷ Begin 2 7
    ∷ End 2 Pending ∷ Begin 3 8 ∷ End 3 Pending ∷ Begin 1 5 ∷ Ran 1 (RanError 9) ∷ Free 1 (7 ∷ [])
    ∷ End 1 (Error 9) ∷ Begin 4 6 ∷ Claim 4 ∷ Ran 4 RanPending ∷ End 4 Pending ∷ DropBegin 2 ∷ DropEnd 2
    ∷ Begin 4 6 ∷ Ran 4 (RanError 9) ∷ Free 4 (8 ∷ []) ∷ End 4 (Error 9) ∷ [])

no_pass_while_a_head_holds : history_of Once 8 no_pass_while_a_head_holds_inputs ≡ no_pass_while_a_head_holds_record
no_pass_while_a_head_holds = refl

no_pass_while_a_head_holds_door : queue_of Once 8 no_pass_while_a_head_holds_inputs ≡ Some 1
no_pass_while_a_head_holds_door = refl

no_pass_while_a_head_holds_run : IsRun Once 8 no_pass_while_a_head_holds_record
no_pass_while_a_head_holds_run = every_run Once 8 no_pass_while_a_head_holds_inputs (omega arith)

-- two woken tasks are dropped in turn, and each wakes the next
abbrev two_pass_on_in_turn_inputs : List Input
two_pass_on_in_turn_inputs =
    newest_first
    (Make 1 ∷ Make 2 ∷ Make 3 ∷ Make 4 ∷ Poll 1 5 ∷ run 1 RanPending ++ Poll 2 7 ∷ run 2 RanPending ++ Poll 3 8
    ∷ run 3 RanPending ++ Poll 4 9 ∷ run 4 RanPending ++ Poll 1 5 ∷ run 1 (RanError 9) ++ Drop 2
    ∷ run 2 RanPending ++ Drop 3 ∷ run 3 RanPending ++ Poll 4 9 ∷ run 4 (RanValue 6))

abbrev pub two_pass_on_in_turn_record : List Entry
two_pass_on_in_turn_record =
    newest_first
    (Made 1 ∷ Made 2 ∷ Made 3 ∷ Made 4 ∷ Begin 1 5 ∷ Claim 1 ∷ Ran 1 RanPending ∷ End 1 Pending ∷ Begin 2 7
    ∷ End 2 Pending ∷ Begin 3 8 ∷ End 3 Pending ∷ Begin 4 9 ∷ End 4 Pending ∷ Begin 1 5 ∷ Ran 1 (RanError 9)
    ∷ Free 1 (7 ∷ []) ∷ End 1 (Error 9) ∷ DropBegin 2 ∷ Pass 2 (8 ∷ []) ∷ DropEnd 2 ∷ DropBegin 3
    ∷ Pass 3 (9 ∷ []) ∷ DropEnd 3 ∷ Begin 4 9 ∷ Claim 4 ∷ Ran 4 (RanValue 6) ∷ Fill 4 6 [] ∷ End 4 (Value 6) ∷ [])

two_pass_on_in_turn : history_of Once 8 two_pass_on_in_turn_inputs ≡ two_pass_on_in_turn_record
two_pass_on_in_turn = refl

two_pass_on_in_turn_door : queue_of Once 8 two_pass_on_in_turn_inputs ≡ None
two_pass_on_in_turn_door = refl

two_pass_on_in_turn_run : IsRun Once 8 two_pass_on_in_turn_record
two_pass_on_in_turn_run = every_run Once 8 two_pass_on_in_turn_inputs (omega arith)

-- the woken task is dropped, and nobody else waits: it wakes nobody
abbrev last_one_leaves_inputs : List Input
last_one_leaves_inputs =
    newest_first
    (Make 1 ∷ Make 2 ∷ Poll 1 5 ∷ run 1 RanPending ++ Poll 2 7 ∷ run 2 RanPending ++ Poll 1 5 ∷ run 1 (RanError 9) ++ Drop 2 ∷ run 2 RanPending ++ Make 3 ∷ Poll 3 8 ∷ run 3 (RanValue 4))

abbrev pub last_one_leaves_record : List Entry
last_one_leaves_record =
    newest_first
    (Made 1 ∷ Made 2 ∷ Begin 1 5 ∷ Claim 1 ∷ Ran 1 RanPending ∷ End 1 Pending ∷ Begin 2 7 ∷ End 2 Pending ∷ Begin 1 5
    ∷ Ran 1 (RanError 9) ∷ Free 1 (7 ∷ []) ∷ End 1 (Error 9) ∷ DropBegin 2 ∷ DropEnd 2 ∷ Made 3 ∷ Begin 3 8
    ∷ Claim 3 ∷ Ran 3 (RanValue 4) ∷ Fill 3 4 [] ∷ End 3 (Value 4) ∷ [])

last_one_leaves : history_of Once 8 last_one_leaves_inputs ≡ last_one_leaves_record
last_one_leaves = refl

last_one_leaves_door : queue_of Once 8 last_one_leaves_inputs ≡ None
last_one_leaves_door = refl

last_one_leaves_run : IsRun Once 8 last_one_leaves_record
last_one_leaves_run = every_run Once 8 last_one_leaves_inputs (omega arith)
