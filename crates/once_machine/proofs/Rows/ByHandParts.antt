-- The late queue's record and log fall into parts by hand: what each input adds to the record and to the queue log.
use Rattle.std.proofs.Common.{◌≡◌, Bool, true, false, List, [], ◌∷◌, refl}
use Rattle.once_machine.specs.Record.{Begin, Claim, DropBegin, DropEnd, End, Entry, Fill, Free, Made, Once, Pass, Pending, Ran, RanPending, RanValue, Value}
use Rattle.once_machine.specs.Inputs.{Adds, AreAdded, Go, Input, Make, Part, Poll, entries_of, inputs_of}
use Rattle.once_machine.specs.Log.{AddsLines, AreLogged, lines_of}
use Rattle.once_machine.specs.Machine.{EnteredLine, PutLine, QueueLine, TakenLine, history_of, log_of}
use Rattle.once_machine.proofs.Rows.Order.{newest_first}
use Rattle.once_machine.proofs.Rows.Late.{late_queue_record}

-- an input and what it adds to the record and to the queue log
abbrev part : Input → List Entry → List QueueLine → Part
part i entries lines = record { input = i; entries = entries; lines = lines }

-- the late queue without steps that do not fit, the oldest part first
abbrev late_parts : List Part
late_parts = newest_first (
    part (Make 1) (Made 1 ∷ []) [] ∷ part (Make 2) (Made 2 ∷ []) []
    ∷ part (Poll 1 5) (Begin 1 5 ∷ []) [] ∷ part (Go 1 RanPending true) [] [] ∷ part (Go 1 RanPending true) (Claim 1 ∷ []) [] ∷ part (Go 1 RanPending true) (End 1 Pending ∷ Ran 1 RanPending ∷ []) []
    ∷ part (Poll 2 7) (Begin 2 7 ∷ []) [] ∷ part (Go 2 RanPending true) [] [] ∷ part (Go 2 RanPending true) [] []
    ∷ part (Poll 1 5) (Begin 1 5 ∷ []) [] ∷ part (Go 1 (RanValue 4) true) (Ran 1 (RanValue 4) ∷ []) [] ∷ part (Go 1 (RanValue 4) true) [] []
    ∷ part (Go 1 (RanValue 4) true) (Fill 1 4 [] ∷ []) [] ∷ part (Go 1 (RanValue 4) true) (End 1 (Value 4) ∷ []) []
    ∷ part (Go 2 RanPending true) [] (PutLine 1 ∷ []) ∷ part (Go 2 RanPending true) [] []
    ∷ part (Go 2 RanPending true) [] [] ∷ part (Go 2 RanPending true) (End 2 (Value 4) ∷ []) (TakenLine 1 ∷ [])
    ∷ [])

-- these are the parts of their inputs, and of the record and log of the late queue
late_parts_record : history_of Once 8 (inputs_of late_parts) ≡ entries_of late_parts
late_parts_record = refl

late_parts_same : entries_of late_parts ≡ late_queue_record
late_parts_same = refl

late_parts_log : log_of Once 8 (inputs_of late_parts) ≡ lines_of late_parts
late_parts_log = refl

-- each input adds its entries, from the newest to the oldest
late_parts_added : AreAdded Once late_parts
late_parts_added = (
  refl,
  (
    tt,
    (
      tt,
      (
        tt,
        (
          refl,
          (
            refl,
            (
              tt,
              (
                (refl, refl),
                (
                  refl,
                  (tt, (tt, (refl, ((refl, (refl, refl)), (refl, (tt, (refl, (refl, (refl, tt))))))))),
                ),
              ),
            ),
          ),
        ),
      ),
    ),
  ),
)

-- at most one line, and no need to enter the queue
calm : Unit {0} × (◌≡◌ {A = Bool} false true → ◌≡◌ {A = Bool} false true)
calm = (tt, λ n. n)

-- each input adds its lines, and no step here needs to enter the queue
late_parts_logged : AreLogged Once late_parts
late_parts_logged =
    (calm, (calm, (calm, (calm, (calm, (calm, (calm, (calm, (refl, (calm, (calm, (refl, (calm, (calm, (calm, (refl, (refl, (refl, tt))))))))))))))))))

-- a woken task is in its drop
abbrev leaving : List Entry
leaving = newest_first (
    Made 1 ∷ Made 2 ∷ Made 3 ∷ Begin 1 5 ∷ Claim 1 ∷ Ran 1 RanPending ∷ End 1 Pending ∷ Begin 2 7 ∷ End 2 Pending ∷ Begin 3 8 ∷ End 3 Pending
    ∷ DropBegin 1 ∷ Free 1 (7 ∷ []) ∷ DropEnd 1 ∷ DropBegin 2 ∷ [])

-- its step adds the Pass and the line of the queue that it entered
pass_added : Adds Once (Go 2 RanPending true) leaving (Pass 2 (8 ∷ []) ∷ [])
pass_added = refl

pass_logged : AddsLines Once (Go 2 RanPending true) leaving (Pass 2 (8 ∷ []) ∷ []) (PutLine 1 ∷ []) (EnteredLine 1 ∷ [])
pass_logged = (tt, λ n. refl)
