-- Parts with one thing wrong: an input adds what it may not add.
use Rattle.std.proofs.Common.{◌≡◌, ℕ, zero, suc, true, false, List, [], ◌∷◌, ◌++◌, refl, sym, arith}
use Rattle.std.proofs.lemmas.Bool.{false≢true}
use Rattle.once_machine.specs.Record.{Begin, Claim, DropBegin, End, Entry, GotNone, Made, Memory, Once, OnceWith, Own, Pass, Pending, Ran, RanPending, RanValue, Take}
use Rattle.once_machine.specs.Inputs.{AreAdded, Drop, Go, Input, Looks, Make, Owns, Part, Poll, SixteenEnd, WantsMemoryOnlyUngranted, all_granted}
use Rattle.once_machine.proofs.Rows.Order.{newest_first}

-- an input and what it adds to the record
abbrev part : Input → List Entry → Part
part i entries = record { input = i; entries = entries; lines = [] }

-- n steps of the first task that add nothing
abbrev idle : ℕ → List Part
idle zero = []
idle (suc n) = part (Go 1 RanPending true) [] ∷ idle n

-- a task that was made, and whose poll is under way
abbrev polling : List Part
polling = part (Make 1) (Made 1 ∷ []) ∷ part (Poll 1 7) (Begin 1 7 ∷ []) ∷ []

two_not_one : ◌≡◌ {A = ℕ} 2 1 → ⊥
two_not_one e = omega arith

-- a Make of a new task adds nothing
make_unrecorded : AreAdded Once (newest_first (part (Make 1) [] ∷ [])) → ⊥
make_unrecorded a = let e = a.0 in let z : ⊥ = cc in z

-- a Make of a task that is there adds a Made
made_twice : AreAdded Once (newest_first (polling ++ part (Make 1) (Made 1 ∷ []) ∷ [])) → ⊥
made_twice a = let e = a.0 in let z : ⊥ = cc in z

-- a Poll adds the Begin of another waker
other_waker : AreAdded Once (newest_first (part (Make 1) (Made 1 ∷ []) ∷ part (Poll 1 7) (Begin 1 8 ∷ []) ∷ [])) → ⊥
other_waker a = let e = a.0 in let n : ◌≡◌ {A = ℕ} 8 7 = cc in let z : ⊥ = omega arith in z

-- a Poll begins a poll while one is under way
poll_under_way : AreAdded Once (newest_first (polling ++ part (Poll 1 7) (Begin 1 7 ∷ []) ∷ [])) → ⊥
poll_under_way a = let e = a.0 in let z : ⊥ = cc in z

-- the drop of a task that was never polled does not end
drop_without_end : AreAdded Once (newest_first (part (Make 1) (Made 1 ∷ []) ∷ part (Drop 1) (DropBegin 1 ∷ []) ∷ [])) → ⊥
drop_without_end a = let e = a.0 in let z : ⊥ = cc in z

-- a step of one task claims for another
claim_for_another : AreAdded Once (newest_first (polling ++ part (Go 1 RanPending true) (Claim 2 ∷ []) ∷ [])) → ⊥
claim_for_another a = two_not_one a.0

-- a step of one task passes the turn of another on
pass_for_another : AreAdded Once (newest_first (polling ++ part (Go 1 RanPending true) (Pass 2 (8 ∷ []) ∷ []) ∷ [])) → ⊥
pass_for_another a = two_not_one a.0

-- a drop passes the turn on as it begins
pass_without_a_step : AreAdded Once (newest_first (part (Make 1) (Made 1 ∷ []) ∷ part (Drop 1) (Pass 1 (8 ∷ []) ∷ DropBegin 1 ∷ []) ∷ [])) → ⊥
pass_without_a_step a = let e = a.0 in let z : ⊥ = cc in z

-- a step makes a task
step_makes : AreAdded Once (newest_first (polling ++ part (Go 1 RanPending true) (Made 1 ∷ []) ∷ [])) → ⊥
step_makes a = a.0

-- one step adds three entries
three_entries : AreAdded Once (newest_first (polling ++ part (Go 1 RanPending true) (End 1 Pending ∷ Ran 1 RanPending ∷ Claim 1 ∷ []) ∷ [])) → ⊥
three_entries a = a.0

-- a step adds an entry while no call is under way
step_of_nobody : AreAdded Once (newest_first (part (Make 1) (Made 1 ∷ []) ∷ part (Go 1 RanPending true) (Claim 1 ∷ []) ∷ [])) → ⊥
step_of_nobody a = let e = a.0 in let z : ⊥ = cc in z

-- the step says that the init is pending, and it gives a value
other_answer : AreAdded Once (newest_first (polling ++ part (Go 1 RanPending true) (Claim 1 ∷ []) ∷ part (Go 1 RanPending true) (Ran 1 (RanValue 4) ∷ []) ∷ []))
    → ⊥
other_answer a = let e = a.0.1 in let z : ⊥ = cc in z

-- the owner's call adds an entry while a task is not gone
owner_too_early : AreAdded Once (newest_first (part (Make 1) (Made 1 ∷ []) ∷ part (Owns Take) (Own Take GotNone ∷ []) ∷ [])) → ⊥
owner_too_early a = let e = a.0 in let z : ⊥ = cc in z

-- a look adds nothing
look_unrecorded : AreAdded (OnceWith 4) (newest_first (part Looks [] ∷ [])) → ⊥
look_unrecorded a = let e = a.0 in let z : ⊥ = cc in z

-- a call took sixteen steps, and is still under way
sixteen_and_on : SixteenEnd Once (newest_first (polling ++ idle 16)) → ⊥
sixteen_and_on s = false≢true (sym (s 1 (omega arith)))

-- a poll ends for want of memory, and each of its steps was given memory
memory_wanted : WantsMemoryOnlyUngranted Once (newest_first (polling ++ idle 2 ++ part (Go 1 RanPending true) (End 1 Memory ∷ []) ∷ [])) → ⊥
memory_wanted m = false≢true (sym (m 1 refl))

-- the same, and a step of an earlier call was given none
memory_refused_before : WantsMemoryOnlyUngranted Once (newest_first
    (polling ++ part (Go 1 RanPending false) (End 1 Pending ∷ []) ∷ part (Poll 1 7) (Begin 1 7 ∷ [])
    ∷ part (Go 1 RanPending true) (End 1 Memory ∷ []) ∷ []))
    → ⊥
memory_refused_before m = false≢true (sym (m 1 refl))

-- the same, and a step of another task was given none
memory_refused_to_another : WantsMemoryOnlyUngranted Once
    (newest_first (polling ++ part (Make 2) (Made 2 ∷ []) ∷ part (Poll 2 8) (Begin 2 8 ∷ [])
    ∷ part (Go 2 RanPending false) [] ∷ part (Go 1 RanPending true) (End 1 Memory ∷ []) ∷ []))
    → ⊥
memory_refused_to_another m = false≢true (sym (m 1 refl))

-- a step without memory is told from one with memory
granted_told : (all_granted (Go 1 RanPending true ∷ Poll 1 7 ∷ []) ≡ true) × (all_granted (Go 1 RanPending true ∷ Go 1 RanPending false ∷ []) ≡ false)
granted_told = (refl, refl)
