-- Rows in which a poll is refused: for want of memory, or because the place is full.
use Rattle.std.proofs.Common.{◌≡◌, true, false, List, [], ◌∷◌, ◌++◌, Some, None, refl, arith}
use Rattle.once_machine.specs.Record.{RanPending, RanValue, RanError, Pending, Value, Error, Memory, Full, Once, Entry, Made, Begin, Claim, Ran, Free, Fill, End}
use Rattle.once_machine.specs.Run.{IsRun}
use Rattle.once_machine.specs.Inputs.{Input, Make, Poll, Go}
use Rattle.once_machine.specs.Machine.{history_of, queue_of}
use Rattle.once_machine.proofs.Input.Headline.{every_run}
use Rattle.once_machine.proofs.Rows.Order.{newest_first, run, steps}

-- as many tasks wait as may: one more finds the place full
abbrev limit_of_the_count_inputs : List Input
limit_of_the_count_inputs = newest_first (Make 1 ∷ Make 2 ∷ Make 3 ∷ Poll 1 5 ∷ run 1 RanPending ++ Poll 2 7 ∷ run 2 RanPending ++ Poll 3 9 ∷ run 3 RanPending)

abbrev pub limit_of_the_count_record : List Entry
limit_of_the_count_record = newest_first (Made 1 ∷ Made 2 ∷ Made 3 ∷ Begin 1 5 ∷ Claim 1 ∷ Ran 1 RanPending ∷ End 1 Pending ∷ Begin 2 7 ∷ End 2 Pending ∷ Begin 3 9 ∷ End 3 Full ∷ [])

limit_of_the_count : history_of Once 1 limit_of_the_count_inputs ≡ limit_of_the_count_record
limit_of_the_count = refl

limit_of_the_count_door : queue_of Once 1 limit_of_the_count_inputs ≡ Some 1
limit_of_the_count_door = refl

limit_of_the_count_run : IsRun Once 1 limit_of_the_count_record
limit_of_the_count_run = every_run Once 1 limit_of_the_count_inputs (omega arith)

-- the holder itself needs a place in the count for its release, and takes it at the limit too
abbrev release_beyond_the_limit_inputs : List Input
release_beyond_the_limit_inputs =
    newest_first
    (Make 1 ∷ Make 2 ∷ Make 3 ∷ Poll 1 5 ∷ run 1 RanPending ++ Poll 2 7 ∷ run 2 RanPending ++ Poll 3 9 ∷ run 3 RanPending ++ Poll 1 5 ∷ run 1 (RanError 5) ++ Poll 2 7 ∷ run 2 (RanValue 6))

abbrev pub release_beyond_the_limit_record : List Entry
release_beyond_the_limit_record =
    newest_first
    (Made 1 ∷ Made 2 ∷ Made 3 ∷ Begin 1 5 ∷ Claim 1 ∷ Ran 1 RanPending ∷ End 1 Pending ∷ Begin 2 7 ∷ End 2 Pending
    ∷ Begin 3 9 ∷ End 3 Full ∷ Begin 1 5 ∷ Ran 1 (RanError 5) ∷ Free 1 (7 ∷ []) ∷ End 1 (Error 5) ∷ Begin 2 7
    ∷ Claim 2 ∷ Ran 2 (RanValue 6) ∷ Fill 2 6 [] ∷ End 2 (Value 6) ∷ [])

release_beyond_the_limit : history_of Once 1 release_beyond_the_limit_inputs ≡ release_beyond_the_limit_record
release_beyond_the_limit = refl

release_beyond_the_limit_door : queue_of Once 1 release_beyond_the_limit_inputs ≡ None
release_beyond_the_limit_door = refl

release_beyond_the_limit_run : IsRun Once 1 release_beyond_the_limit_record
release_beyond_the_limit_run = every_run Once 1 release_beyond_the_limit_inputs (omega arith)

-- no memory for a queue
abbrev queue_refused_inputs : List Input
queue_refused_inputs = newest_first (Make 1 ∷ Make 2 ∷ Poll 1 5 ∷ run 1 RanPending ++ Poll 2 7 ∷ Go 2 RanPending true ∷ Go 2 RanPending true ∷ Go 2 RanPending false ∷ run 2 RanPending)

abbrev pub queue_refused_record : List Entry
queue_refused_record = newest_first (Made 1 ∷ Made 2 ∷ Begin 1 5 ∷ Claim 1 ∷ Ran 1 RanPending ∷ End 1 Pending ∷ Begin 2 7 ∷ End 2 Memory ∷ [])

queue_refused : history_of Once 8 queue_refused_inputs ≡ queue_refused_record
queue_refused = refl

queue_refused_door : queue_of Once 8 queue_refused_inputs ≡ None
queue_refused_door = refl

queue_refused_run : IsRun Once 8 queue_refused_record
queue_refused_run = every_run Once 8 queue_refused_inputs (omega arith)

-- no memory for the copy of a waker
abbrev waker_copy_refused_inputs : List Input
waker_copy_refused_inputs =
    newest_first
    (Make 1 ∷ Make 2 ∷ Poll 1 5 ∷ run 1 RanPending ++ Poll 2 7 ∷ Go 2 RanPending true ∷ Go 2 RanPending true
    ∷ Go 2 RanPending true ∷ Go 2 RanPending true ∷ Go 2 RanPending true ∷ Go 2 RanPending false
    ∷ run 2 RanPending)

abbrev pub waker_copy_refused_record : List Entry
waker_copy_refused_record = newest_first (Made 1 ∷ Made 2 ∷ Begin 1 5 ∷ Claim 1 ∷ Ran 1 RanPending ∷ End 1 Pending ∷ Begin 2 7 ∷ End 2 Memory ∷ [])

waker_copy_refused : history_of Once 8 waker_copy_refused_inputs ≡ waker_copy_refused_record
waker_copy_refused = refl

waker_copy_refused_door : queue_of Once 8 waker_copy_refused_inputs ≡ Some 1
waker_copy_refused_door = refl

waker_copy_refused_run : IsRun Once 8 waker_copy_refused_record
waker_copy_refused_run = every_run Once 8 waker_copy_refused_inputs (omega arith)

-- no memory for a listing, though another task is listed with the same waker
abbrev listed_by_another_and_no_memory_inputs : List Input
listed_by_another_and_no_memory_inputs =
    newest_first
    (Make 1 ∷ Make 2 ∷ Make 3 ∷ Poll 1 5 ∷ run 1 RanPending ++ Poll 2 7 ∷ Go 2 RanPending true ∷ Go 2 RanPending true
    ∷ Go 2 RanPending true ∷ Go 2 RanPending true ∷ Go 2 RanPending true ∷ Go 2 RanPending true ∷ Poll 3 7
    ∷ run 3 RanPending ++ Go 2 RanPending false ∷ run 2 RanPending)

abbrev pub listed_by_another_and_no_memory_record : List Entry
listed_by_another_and_no_memory_record = newest_first (Made 1 ∷ Made 2 ∷ Made 3 ∷ Begin 1 5 ∷ Claim 1 ∷ Ran 1 RanPending ∷ End 1 Pending ∷ Begin 2 7 ∷ Begin 3 7 ∷ End 3 Pending ∷ End 2 Memory ∷ [])

listed_by_another_and_no_memory : history_of Once 8 listed_by_another_and_no_memory_inputs ≡ listed_by_another_and_no_memory_record
listed_by_another_and_no_memory = refl

listed_by_another_and_no_memory_door : queue_of Once 8 listed_by_another_and_no_memory_inputs ≡ Some 1
listed_by_another_and_no_memory_door = refl

listed_by_another_and_no_memory_run : IsRun Once 8 listed_by_another_and_no_memory_record
listed_by_another_and_no_memory_run = every_run Once 8 listed_by_another_and_no_memory_inputs (omega arith)

-- no memory is needed to list another waker of a task that is listed
abbrev relisted_without_memory_inputs : List Input
relisted_without_memory_inputs =
    newest_first
    (Make 1 ∷ Make 2 ∷ Poll 1 5 ∷ run 1 RanPending ++ Poll 2 7 ∷ run 2 RanPending ++ Poll 2 8 ∷ steps 2 2 RanPending ++ Go 2 RanPending false ∷ run 2 RanPending ++ Poll 1 5 ∷ run 1 (RanError 9))

abbrev pub relisted_without_memory_record : List Entry
relisted_without_memory_record =
    newest_first
    (Made 1 ∷ Made 2 ∷ Begin 1 5 ∷ Claim 1 ∷ Ran 1 RanPending ∷ End 1 Pending ∷ Begin 2 7 ∷ End 2 Pending ∷ Begin 2 8
    ∷ End 2 Pending ∷ Begin 1 5 ∷ Ran 1 (RanError 9) ∷ Free 1 (8 ∷ []) ∷ End 1 (Error 9) ∷ [])

relisted_without_memory : history_of Once 8 relisted_without_memory_inputs ≡ relisted_without_memory_record
relisted_without_memory = refl

relisted_without_memory_door : queue_of Once 8 relisted_without_memory_inputs ≡ Some 1
relisted_without_memory_door = refl

relisted_without_memory_run : IsRun Once 8 relisted_without_memory_record
relisted_without_memory_run = every_run Once 8 relisted_without_memory_inputs (omega arith)
