-- Rows of the owner, and of lazy cells.
use Rattle.std.proofs.Common.{◌≡◌, true, List, [], ◌∷◌, ◌++◌, Some, None, refl, arith}
use Rattle.once_machine.specs.Record.{RanPending, RanValue, Pending, Once, OnceWith, Lazy, LazyWith, Take, Write, Parts, ReplaceValue, ReplaceAnswers, GotNone}
use Rattle.once_machine.specs.Record.{GotValue, GotAnswers, Entry, Made, Begin, Claim, Ran, End, Look, Own}
use Rattle.once_machine.specs.Run.{IsRun}
use Rattle.once_machine.specs.Inputs.{Input, Make, Poll, Drop, Go, Looks, Owns}
use Rattle.once_machine.specs.Machine.{history_of, queue_of}
use Rattle.once_machine.proofs.Input.Headline.{every_run}
use Rattle.once_machine.proofs.Rows.Order.{newest_first, run}

-- a value is looked at, changed and taken, and an empty cell gives nothing
abbrev repeat_after_emptying_inputs : List Input
repeat_after_emptying_inputs = newest_first (Looks ∷ Owns (Write 6) ∷ Owns Take ∷ Looks ∷ Owns (Write 7) ∷ Owns Take ∷ [])

abbrev pub repeat_after_emptying_record : List Entry
repeat_after_emptying_record = newest_first (Look (Some 5) ∷ Own (Write 6) (GotValue 5) ∷ Own Take (GotValue 6) ∷ Look None ∷ Own (Write 7) GotNone ∷ Own Take GotNone ∷ [])

repeat_after_emptying : history_of (OnceWith 5) 8 repeat_after_emptying_inputs ≡ repeat_after_emptying_record
repeat_after_emptying = refl

repeat_after_emptying_door : queue_of (OnceWith 5) 8 repeat_after_emptying_inputs ≡ None
repeat_after_emptying_door = refl

repeat_after_emptying_run : IsRun (OnceWith 5) 8 repeat_after_emptying_record
repeat_after_emptying_run = every_run (OnceWith 5) 8 repeat_after_emptying_inputs (omega arith)

-- a lazy cell is replaced by a value, then by an init with other answers, and is taken apart
abbrev replacements_inputs : List Input
replacements_inputs = newest_first (Owns (ReplaceValue 8) ∷ Looks ∷ Owns (ReplaceAnswers (None ∷ Some 3 ∷ [])) ∷ Owns Parts ∷ [])

abbrev pub replacements_record : List Entry
replacements_record = newest_first (Own (ReplaceValue 8) (GotValue 7) ∷ Look (Some 8) ∷ Own (ReplaceAnswers (None ∷ Some 3 ∷ [])) (GotValue 8) ∷ Own Parts (GotAnswers (None ∷ Some 3 ∷ [])) ∷ [])

replacements : history_of (LazyWith 7) 8 replacements_inputs ≡ replacements_record
replacements = refl

replacements_door : queue_of (LazyWith 7) 8 replacements_inputs ≡ None
replacements_door = refl

replacements_run : IsRun (LazyWith 7) 8 replacements_record
replacements_run = every_run (LazyWith 7) 8 replacements_inputs (omega arith)

-- a lazy cell whose init was never polled gives all its answers back
abbrev unfinished_handed_back_inputs : List Input
unfinished_handed_back_inputs = newest_first (Looks ∷ Owns Parts ∷ [])

abbrev pub unfinished_handed_back_record : List Entry
unfinished_handed_back_record = newest_first (Look None ∷ Own Parts (GotAnswers (None ∷ Some 9 ∷ [])) ∷ [])

unfinished_handed_back : history_of (Lazy (None ∷ Some 9 ∷ [])) 8 unfinished_handed_back_inputs ≡ unfinished_handed_back_record
unfinished_handed_back = refl

unfinished_handed_back_door : queue_of (Lazy (None ∷ Some 9 ∷ [])) 8 unfinished_handed_back_inputs ≡ None
unfinished_handed_back_door = refl

unfinished_handed_back_run : IsRun (Lazy (None ∷ Some 9 ∷ [])) 8 unfinished_handed_back_record
unfinished_handed_back_run = every_run (Lazy (None ∷ Some 9 ∷ [])) 8 unfinished_handed_back_inputs (omega arith)

-- an init without answers left is pending, whatever the step says
abbrev lazy_answers_used_up_inputs : List Input
lazy_answers_used_up_inputs = newest_first (Make 1 ∷ Poll 1 7 ∷ run 1 (RanValue 3) ++ Poll 1 7 ∷ run 1 (RanValue 3))

abbrev pub lazy_answers_used_up_record : List Entry
lazy_answers_used_up_record = newest_first (Made 1 ∷ Begin 1 7 ∷ Claim 1 ∷ Ran 1 RanPending ∷ End 1 Pending ∷ Begin 1 7 ∷ Ran 1 RanPending ∷ End 1 Pending ∷ [])

lazy_answers_used_up : history_of (Lazy []) 8 lazy_answers_used_up_inputs ≡ lazy_answers_used_up_record
lazy_answers_used_up = refl

lazy_answers_used_up_door : queue_of (Lazy []) 8 lazy_answers_used_up_inputs ≡ None
lazy_answers_used_up_door = refl

lazy_answers_used_up_run : IsRun (Lazy []) 8 lazy_answers_used_up_record
lazy_answers_used_up_run = every_run (Lazy []) 8 lazy_answers_used_up_inputs (omega arith)

-- calls that the kind does not have do nothing
abbrev calls_of_the_other_kind_inputs : List Input
calls_of_the_other_kind_inputs = newest_first (Owns Parts ∷ Owns (ReplaceValue 4) ∷ Owns (ReplaceAnswers (None ∷ [])) ∷ Owns (ReplaceAnswers []) ∷ Looks ∷ [])

abbrev pub calls_of_the_other_kind_record : List Entry
calls_of_the_other_kind_record = newest_first (Look (Some 3) ∷ [])

calls_of_the_other_kind : history_of (OnceWith 3) 8 calls_of_the_other_kind_inputs ≡ calls_of_the_other_kind_record
calls_of_the_other_kind = refl

calls_of_the_other_kind_door : queue_of (OnceWith 3) 8 calls_of_the_other_kind_inputs ≡ None
calls_of_the_other_kind_door = refl

calls_of_the_other_kind_run : IsRun (OnceWith 3) 8 calls_of_the_other_kind_record
calls_of_the_other_kind_run = every_run (OnceWith 3) 8 calls_of_the_other_kind_inputs (omega arith)

-- a step and a drop of a task that was not made do nothing
abbrev unfitting_inputs_inputs : List Input
unfitting_inputs_inputs = newest_first (Go 1 RanPending true ∷ Drop 1 ∷ [])

abbrev pub unfitting_inputs_record : List Entry
unfitting_inputs_record = []

unfitting_inputs : history_of Once 1 unfitting_inputs_inputs ≡ unfitting_inputs_record
unfitting_inputs = refl

unfitting_inputs_door : queue_of Once 1 unfitting_inputs_inputs ≡ None
unfitting_inputs_door = refl

unfitting_inputs_run : IsRun Once 1 unfitting_inputs_record
unfitting_inputs_run = every_run Once 1 unfitting_inputs_inputs (omega arith)
