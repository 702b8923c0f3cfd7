-- Parts whose lines in the queue log are wrong, and queues that stand where they may not. If a queue is wanted at the door from the start, a look is written that puts it.
use Rattle.std.proofs.Common.{◌≡◌, true, List, [], ◌∷◌, ◌++◌, Some, refl, sym}
use Rattle.std.proofs.lemmas.Bool.{false≢true}
use Rattle.once_machine.specs.Record.{Begin, Claim, DropBegin, End, Entry, Fill, Free, GotValue, Look, Made, Once, OnceWith, Own, Pass, Pending, Ran, RanPending, RanValue, Take, Write}
use Rattle.once_machine.specs.Tasks.{Unmade, Waiting}
use Rattle.once_machine.specs.Inputs.{Drop, Go, Input, Looks, Make, Owns, Part, Poll}
use Rattle.once_machine.specs.Log.{AreLogged, NoneKept, WaitingStands}
use Rattle.once_machine.specs.Machine.{EnteredLine, PutLine, QueueLine, TakenLine}
use Rattle.once_machine.proofs.History.Cells.{none_some}
use Rattle.once_machine.proofs.Rows.Order.{newest_first}

-- an input and what it adds to the record and to the queue log
abbrev part : Input → List Entry → List QueueLine → Part
part i entries lines = record { input = i; entries = entries; lines = lines }

-- the first task holds, and the second polls
abbrev second_polls : List Part
second_polls =
    part (Make 1) (Made 1 ∷ []) [] ∷ part (Make 2) (Made 2 ∷ []) [] ∷ part (Poll 1 5) (Begin 1 5 ∷ []) [] ∷ part (Go 1 RanPending true) (Claim 1 ∷ []) []
    ∷ part (Go 1 RanPending true) (End 1 Pending ∷ Ran 1 RanPending ∷ []) [] ∷ part (Poll 2 7) (Begin 2 7 ∷ []) [] ∷ []

unmade_not_waiting : Unmade ≡ Waiting → ⊥
unmade_not_waiting e = cc

-- one step adds two lines
two_lines : AreLogged Once (newest_first (second_polls ++ part (Go 2 RanPending true) [] (EnteredLine 1 ∷ PutLine 1 ∷ []) ∷ [])) → ⊥
two_lines l = l.0.0

-- a poll adds a line
line_of_a_poll : AreLogged Once (newest_first (part (Make 1) (Made 1 ∷ []) [] ∷ part (Poll 1 5) (Begin 1 5 ∷ []) (PutLine 1 ∷ []) ∷ [])) → ⊥
line_of_a_poll l = let e = l.0 in let z : ⊥ = cc in z

-- a task begins to wait without entering the queue
waits_outside : AreLogged Once (newest_first (second_polls ++ part (Go 2 RanPending true) (End 2 Pending ∷ []) [] ∷ [])) → ⊥
waits_outside l = false≢true (l.0.1 refl)

-- a release hands a waker out without entering the queue
hands_out_outside : AreLogged Once (newest_first (second_polls
    ++ part (Go 2 RanPending true) (End 2 Pending ∷ []) (EnteredLine 1 ∷ []) ∷ part (Drop 1) (DropBegin 1 ∷ []) []
    ∷ part (Go 1 RanPending true) (Free 1 (7 ∷ []) ∷ []) [] ∷ []))
    → ⊥
hands_out_outside l = false≢true (l.0.1 refl)

-- a fill hands a waker out without entering the queue
fills_outside : AreLogged Once (newest_first (second_polls
    ++ part (Go 2 RanPending true) (End 2 Pending ∷ []) (EnteredLine 1 ∷ []) ∷ part (Poll 1 5) (Begin 1 5 ∷ []) []
    ∷ part (Go 1 (RanValue 4) true) (Ran 1 (RanValue 4) ∷ []) []
    ∷ part (Go 1 (RanValue 4) true) (Fill 1 4 (7 ∷ []) ∷ []) [] ∷ []))
    → ⊥
fills_outside l = false≢true (l.0.1 refl)

-- a task that leaves hands a waker out without entering the queue
passes_outside : AreLogged Once (newest_first (second_polls ++ part (Go 2 RanPending true) (Pass 2 (8 ∷ []) ∷ []) [] ∷ [])) → ⊥
passes_outside l = false≢true (l.0.1 refl)

-- the owner takes the value, and the queue stays at the door
take_leaves_the_queue : AreLogged (OnceWith 4) (newest_first (part Looks (Look (Some 4) ∷ []) (PutLine 1 ∷ []) ∷ part (Owns Take) (Own Take (GotValue 4) ∷ []) [] ∷ []))
    → ⊥
take_leaves_the_queue l = let e = l.0 in let z : ⊥ = cc in z

-- the owner changes the value, and the queue is taken out
write_takes_the_queue : AreLogged (OnceWith 4) (newest_first (part Looks (Look (Some 4) ∷ []) (PutLine 1 ∷ []) ∷ part (Owns (Write 5)) (Own (Write 5) (GotValue 4) ∷ []) (TakenLine 1 ∷ []) ∷ []))
    → ⊥
write_takes_the_queue l = let e = l.0 in let z : ⊥ = cc in z

-- a task waits, and no queue stands at the door
waits_without_a_queue : WaitingStands Once (newest_first (second_polls ++ part (Go 2 RanPending true) (End 2 Pending ∷ []) [] ∷ [])) → ⊥
waits_without_a_queue w = let q = w 2 refl in none_some q.0 q.1

-- the value is set and nobody is about, and a queue stands at the door
kept_for_nobody : NoneKept (OnceWith 4) (newest_first (part Looks (Look (Some 4) ∷ []) (PutLine 1 ∷ []) ∷ [])) → ⊥
kept_for_nobody n = none_some 1 (sym (n refl (λ t. refl) (λ t e. unmade_not_waiting e)))
