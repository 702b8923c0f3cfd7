-- Which reason is true, by what is kept; and what an answer of a test says, which is a reason or none.
use Rattle.std.specs.Prelude.{◌≡◌, ◌≢◌, ◌≤◌, ℕ, Bool, true, false, length, Result, Ok, Err}
use Rattle.once_machine.specs.Numbers.{member, times_in}
use Rattle.once_machine.specs.Record.{Entry, Own, handed_by}
use Rattle.once_machine.specs.Cell.{next_answer}
use Rattle.once_machine.specs.Tasks.{Fresh, Polling, is_gone}
use Rattle.once_judge.specs.declared.reason.Reason.{Reason}
use Rattle.once_judge.specs.declared.reason.Reason.TheVariants.{TaskIs, CellIs, OfCall, OfWakers, NextAnswer}
use Rattle.once_judge.specs.declared.reason.Reason.TheVariants.{AnswersLeft, NoSuchCall}
use Rattle.once_judge.specs.declared.reason.CallFact.{CallFact}
use Rattle.once_judge.specs.declared.reason.CallFact.TheVariants.{InitAnswered, Claimed, Passed, NotFreed}
use Rattle.once_judge.specs.declared.reason.CallFact.TheVariants.{NoCauseForMemory, NoCrowd, NotFirstPoll}
use Rattle.once_judge.specs.declared.reason.WakersFact.{WakersFact}
use Rattle.once_judge.specs.declared.reason.WakersFact.TheVariants.{NotOpen, Twice, Due, Count}
use Rattle.once_judge.specs.Values.{status_of, cell_of}
use Rattle.once_judge.specs.Seen.{Seen}
use Rattle.once_judge.specs.Legal.{IsDueFor, MemoryFromIn, crowded_since, has_call_in}

-- the cell that is lazy or not has the call, if the entry is one of the owner
abbrev pub has_its_call_in : Bool → Entry → Bool
has_its_call_in lazy (Own o g) = has_call_in lazy o
has_its_call_in lazy _ = true

-- it is so of the call of t
abbrev pub IsSoOfCallIn : ℕ → CallFact → Seen → Type 0
IsSoOfCallIn t (InitAnswered r) S = (is_gone (S.task t).status ≡ false) × ((S.task t).call.ran ≡ r)
IsSoOfCallIn t Claimed S = (is_gone (S.task t).status ≡ false) × ((S.task t).call.claimed ≡ true)
IsSoOfCallIn t Passed S = (is_gone (S.task t).status ≡ false) × ((S.task t).call.passed ≡ true)
IsSoOfCallIn t NotFreed S = (is_gone (S.task t).status ≡ false) × ((S.task t).call.freed ≡ false)
IsSoOfCallIn t NoCauseForMemory S =
    ((S.task t).status ≡ Polling) × (MemoryFromIn (S.task t).call.began t S → ⊥)
IsSoOfCallIn t NoCrowd S = ((S.task t).status ≡ Polling) × (crowded_since t S ≡ false)
IsSoOfCallIn t NotFirstPoll S = (is_gone (S.task t).status ≡ false) × ((S.task t).call.began ≢ Fresh)

-- it is so of the wakers that the entry e hands out
abbrev pub IsSoOfWakersIn : WakersFact → Entry → Seen → Type 0
IsSoOfWakersIn (NotOpen w) e S = (member w (handed_by e) ≡ true) × (S.times w ≡ 0)
IsSoOfWakersIn (Twice w) e S = 2 ≤ times_in w (handed_by e)
IsSoOfWakersIn (Due t w) e S = IsDueFor t w S × (member w (handed_by e) ≡ false)
IsSoOfWakersIn (Count n) e S = length (handed_by e) ≡ n

-- the reason is true of the entry e
abbrev pub IsTrueIn : Bool → Reason → Entry → Seen → Type 0
IsTrueIn lazy (TaskIs t s) e S = (S.task t).status ≡ status_of s
IsTrueIn lazy (CellIs c) e S = S.cell ≡ cell_of c
IsTrueIn lazy (OfCall t f) e S = IsSoOfCallIn t f S
IsTrueIn lazy (OfWakers f) e S = IsSoOfWakersIn f e S
IsTrueIn lazy (NextAnswer a) e S = next_answer S.answers ≡ a
IsTrueIn lazy (AnswersLeft n) e S = length S.answers ≡ n
IsTrueIn lazy NoSuchCall e S = has_its_call_in lazy e ≡ false

-- an answer of a test of P: P holds, or it does not
abbrev pub Tests : Result (Unit {0}) Reason → Type 0 → Type 0
Tests (Ok _) P = P
Tests (Err reason) P = P → ⊥
