-- Rows in which a holder fails and wakes one of the tasks that wait.
use Rattle.std.proofs.Common.{◌≡◌, List, [], ◌∷◌, ◌++◌, Some, None, refl, arith}
use Rattle.once_machine.specs.Record.{RanPending, RanValue, RanError, Pending, Value, Error, Once, Entry, Made, Begin, Claim, Ran, Free, Fill, End}
use Rattle.once_machine.specs.Run.{IsRun}
use Rattle.once_machine.specs.Inputs.{Input, Make, Poll}
use Rattle.once_machine.specs.Machine.{history_of, queue_of}
use Rattle.once_machine.proofs.Input.Headline.{every_run}
use Rattle.once_machine.proofs.Rows.Order.{newest_first, run}

-- the holder fails and wakes the first waiter alone: that task makes the value, and its fill wakes the other
abbrev failed_release_calls_one_inputs : List Input
failed_release_calls_one_inputs =
    newest_first
    (Make 1 ∷ Make 2 ∷ Make 3 ∷ Poll 1 5 ∷ run 1 RanPending ++ Poll 2 7 ∷ run 2 RanPending ++ Poll 3 8
    ∷ run 3 RanPending ++ Poll 1 5 ∷ run 1 (RanError 9) ++ Poll 2 7 ∷ run 2 (RanValue 4) ++ Poll 3 8
    ∷ run 3 RanPending)

abbrev pub failed_release_calls_one_record : List Entry
failed_release_calls_one_record =
    newest_first
    (Made 1 ∷ Made 2 ∷ Made 3 ∷ Begin 1 5 ∷ Claim 1 ∷ Ran 1 RanPending ∷ End 1 Pending ∷ Begin 2 7 ∷ End 2 Pending
    ∷ Begin 3 8 ∷ End 3 Pending ∷ Begin 1 5 ∷ Ran 1 (RanError 9) ∷ Free 1 (7 ∷ []) ∷ End 1 (Error 9) ∷ Begin 2 7
    ∷ Claim 2 ∷ Ran 2 (RanValue 4) ∷ Fill 2 4 (8 ∷ []) ∷ End 2 (Value 4) ∷ Begin 3 8 ∷ End 3 (Value 4) ∷ [])

failed_release_calls_one : history_of Once 8 failed_release_calls_one_inputs ≡ failed_release_calls_one_record
failed_release_calls_one = refl

failed_release_calls_one_door : queue_of Once 8 failed_release_calls_one_inputs ≡ None
failed_release_calls_one_door = refl

failed_release_calls_one_run : IsRun Once 8 failed_release_calls_one_record
failed_release_calls_one_run = every_run Once 8 failed_release_calls_one_inputs (omega arith)

-- a task that claims is no longer listed: its own failure wakes the other task, and not itself
abbrev a_claim_takes_its_listing_out_inputs : List Input
a_claim_takes_its_listing_out_inputs =
    newest_first
    (Make 1 ∷ Make 2 ∷ Make 3 ∷ Poll 1 5 ∷ run 1 RanPending ++ Poll 3 8 ∷ run 3 RanPending ++ Poll 2 7
    ∷ run 2 RanPending ++ Poll 1 5 ∷ run 1 (RanError 9) ++ Poll 3 8 ∷ run 3 (RanError 4) ++ Poll 2 7
    ∷ run 2 (RanValue 6))

abbrev pub a_claim_takes_its_listing_out_record : List Entry
a_claim_takes_its_listing_out_record =
    newest_first
    (Made 1 ∷ Made 2 ∷ Made 3 ∷ Begin 1 5 ∷ Claim 1 ∷ Ran 1 RanPending ∷ End 1 Pending ∷ Begin 3 8 ∷ End 3 Pending
    ∷ Begin 2 7 ∷ End 2 Pending ∷ Begin 1 5 ∷ Ran 1 (RanError 9) ∷ Free 1 (8 ∷ []) ∷ End 1 (Error 9) ∷ Begin 3 8
    ∷ Claim 3 ∷ Ran 3 (RanError 4) ∷ Free 3 (7 ∷ []) ∷ End 3 (Error 4) ∷ Begin 2 7 ∷ Claim 2 ∷ Ran 2 (RanValue 6)
    ∷ Fill 2 6 [] ∷ End 2 (Value 6) ∷ [])

a_claim_takes_its_listing_out : history_of Once 8 a_claim_takes_its_listing_out_inputs ≡ a_claim_takes_its_listing_out_record
a_claim_takes_its_listing_out = refl

a_claim_takes_its_listing_out_door : queue_of Once 8 a_claim_takes_its_listing_out_inputs ≡ None
a_claim_takes_its_listing_out_door = refl

a_claim_takes_its_listing_out_run : IsRun Once 8 a_claim_takes_its_listing_out_record
a_claim_takes_its_listing_out_run = every_run Once 8 a_claim_takes_its_listing_out_inputs (omega arith)

-- a woken task polls again while another holds: it is listed anew, after the others, and is woken again in its turn
abbrev called_waiter_lists_anew_inputs : List Input
called_waiter_lists_anew_inputs =
    newest_first
    (Make 1 ∷ Make 2 ∷ Make 3 ∷ Make 4 ∷ Poll 1 5 ∷ run 1 RanPending ++ Poll 2 7 ∷ run 2 RanPending ++ Poll 3 8
    ∷ run 3 RanPending ++ Poll 1 5 ∷ run 1 (RanError 9) ++ Poll 4 6 ∷ run 4 RanPending ++ Poll 2 7
    ∷ run 2 RanPending ++ Poll 4 6 ∷ run 4 (RanError 9) ++ Poll 3 8 ∷ run 3 (RanError 9))

abbrev pub called_waiter_lists_anew_record : List Entry
called_waiter_lists_anew_record =
    newest_first
    (Made 1 ∷ Made 2 ∷ Made 3 ∷ Made 4 ∷ Begin 1 5 ∷ Claim 1 ∷ Ran 1 RanPending ∷ End 1 Pending ∷ Begin 2 7
    ∷ End 2 Pending ∷ Begin 3 8 ∷ End 3 Pending ∷ Begin 1 5 ∷ Ran 1 (RanError 9) ∷ Free 1 (7 ∷ [])
    ∷ End 1 (Error 9) ∷ Begin 4 6 ∷ Claim 4 ∷ Ran 4 RanPending ∷ End 4 Pending ∷ Begin 2 7 ∷ End 2 Pending
    ∷ Begin 4 6 ∷ Ran 4 (RanError 9) ∷ Free 4 (8 ∷ []) ∷ End 4 (Error 9) ∷ Begin 3 8 ∷ Claim 3
    ∷ Ran 3 (RanError 9) ∷ Free 3 (7 ∷ []) ∷ End 3 (Error 9) ∷ [])

called_waiter_lists_anew : history_of Once 8 called_waiter_lists_anew_inputs ≡ called_waiter_lists_anew_record
called_waiter_lists_anew = refl

called_waiter_lists_anew_door : queue_of Once 8 called_waiter_lists_anew_inputs ≡ Some 1
called_waiter_lists_anew_door = refl

called_waiter_lists_anew_run : IsRun Once 8 called_waiter_lists_anew_record
called_waiter_lists_anew_run = every_run Once 8 called_waiter_lists_anew_inputs (omega arith)

-- two tasks wait with one waker: a fill hands it out once
abbrev one_waker_at_a_fill_inputs : List Input
one_waker_at_a_fill_inputs =
    newest_first
    (Make 1 ∷ Make 2 ∷ Make 3 ∷ Poll 1 5 ∷ run 1 RanPending ++ Poll 2 7 ∷ run 2 RanPending ++ Poll 3 7
    ∷ run 3 RanPending ++ Poll 1 5 ∷ run 1 (RanValue 4) ++ Poll 2 7 ∷ run 2 RanPending ++ Poll 3 7
    ∷ run 3 RanPending)

abbrev pub one_waker_at_a_fill_record : List Entry
one_waker_at_a_fill_record =
    newest_first
    (Made 1 ∷ Made 2 ∷ Made 3 ∷ Begin 1 5 ∷ Claim 1 ∷ Ran 1 RanPending ∷ End 1 Pending ∷ Begin 2 7 ∷ End 2 Pending
    ∷ Begin 3 7 ∷ End 3 Pending ∷ Begin 1 5 ∷ Ran 1 (RanValue 4) ∷ Fill 1 4 (7 ∷ []) ∷ End 1 (Value 4)
    ∷ Begin 2 7 ∷ End 2 (Value 4) ∷ Begin 3 7 ∷ End 3 (Value 4) ∷ [])

one_waker_at_a_fill : history_of Once 8 one_waker_at_a_fill_inputs ≡ one_waker_at_a_fill_record
one_waker_at_a_fill = refl

one_waker_at_a_fill_door : queue_of Once 8 one_waker_at_a_fill_inputs ≡ None
one_waker_at_a_fill_door = refl

one_waker_at_a_fill_run : IsRun Once 8 one_waker_at_a_fill_record
one_waker_at_a_fill_run = every_run Once 8 one_waker_at_a_fill_inputs (omega arith)

-- two tasks wait with one waker: two failures hand it out twice, once for each
abbrev one_waker_at_two_failures_inputs : List Input
one_waker_at_two_failures_inputs =
    newest_first
    (Make 1 ∷ Make 2 ∷ Make 3 ∷ Poll 1 5 ∷ run 1 RanPending ++ Poll 2 7 ∷ run 2 RanPending ++ Poll 3 7
    ∷ run 3 RanPending ++ Poll 1 5 ∷ run 1 (RanError 9) ++ Poll 2 7 ∷ run 2 (RanError 4) ++ Poll 3 7
    ∷ run 3 (RanValue 6))

abbrev pub one_waker_at_two_failures_record : List Entry
one_waker_at_two_failures_record =
    newest_first
    (Made 1 ∷ Made 2 ∷ Made 3 ∷ Begin 1 5 ∷ Claim 1 ∷ Ran 1 RanPending ∷ End 1 Pending ∷ Begin 2 7 ∷ End 2 Pending
    ∷ Begin 3 7 ∷ End 3 Pending ∷ Begin 1 5 ∷ Ran 1 (RanError 9) ∷ Free 1 (7 ∷ []) ∷ End 1 (Error 9) ∷ Begin 2 7
    ∷ Claim 2 ∷ Ran 2 (RanError 4) ∷ Free 2 (7 ∷ []) ∷ End 2 (Error 4) ∷ Begin 3 7 ∷ Claim 3 ∷ Ran 3 (RanValue 6)
    ∷ Fill 3 6 [] ∷ End 3 (Value 6) ∷ [])

one_waker_at_two_failures : history_of Once 8 one_waker_at_two_failures_inputs ≡ one_waker_at_two_failures_record
one_waker_at_two_failures = refl

one_waker_at_two_failures_door : queue_of Once 8 one_waker_at_two_failures_inputs ≡ None
one_waker_at_two_failures_door = refl

one_waker_at_two_failures_run : IsRun Once 8 one_waker_at_two_failures_record
one_waker_at_two_failures_run = every_run Once 8 one_waker_at_two_failures_inputs (omega arith)
