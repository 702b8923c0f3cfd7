-- What a verdict says of a record.
use Rattle.std.specs.Prelude.{◌≡◌, ◌≢◌, ◌≤◌, ◌<◌, ℕ, Bool, true, false, suc}
use Rattle.std.specs.Prelude.{List, [], ◌∷◌, ◌++◌, take, length, Option, Some, None}
use Rattle.once_machine.specs.Numbers.{member, times_in}
use Rattle.once_machine.specs.declared.record.Entry.{Entry as Written}
use Rattle.once_machine.specs.Record.{Kind, Entry, Own, handed_by, has_call}
use Rattle.once_machine.specs.Cell.{Empty, cell, answers_left, next_answer}
use Rattle.once_machine.specs.Tasks.{Fresh, Waiting, status, last_call}
use Rattle.once_machine.specs.Wakers.{IsOpen, handed_since}
use Rattle.once_machine.specs.Refusals.{Since, IsCrowded, MemoryFrom}
use Rattle.once_machine.specs.Called.{IsCalled, SomebodyCalled}
use Rattle.once_machine.specs.Run.{AtEvery}
use Rattle.once_machine.specs.Shown.{entry_of, history_in}
use Rattle.once_judge.specs.declared.calls.Calls.{Calls}
use Rattle.once_judge.specs.declared.reason.Reason.{Reason}
use Rattle.once_judge.specs.declared.reason.Reason.TheVariants.{TaskIs, CellIs, OfCall, OfWakers, NextAnswer}
use Rattle.once_judge.specs.declared.reason.Reason.TheVariants.{AnswersLeft, NoSuchCall}
use Rattle.once_judge.specs.declared.reason.CallFact.{CallFact}
use Rattle.once_judge.specs.declared.reason.CallFact.TheVariants.{InitAnswered, Claimed, Passed, NotFreed}
use Rattle.once_judge.specs.declared.reason.CallFact.TheVariants.{NoCauseForMemory, NoCrowd, NotFirstPoll}
use Rattle.once_judge.specs.declared.reason.WakersFact.{WakersFact}
use Rattle.once_judge.specs.declared.reason.WakersFact.TheVariants.{NotOpen, Twice, Due, Count}
use Rattle.once_judge.specs.declared.verdict.Fault.{Fault}
use Rattle.once_judge.specs.Values.{status_of, cell_of}
use Rattle.once_judge.specs.Calls.{IsRunBy}

-- the record is a run up to its entry n, and no record is one that begins with its entries up to n and with that one
pub record StopsAt (calls : Calls) (kind : Kind) (limit : ℕ) (entries : List Written) (n : ℕ) : Type 0 where
  pub within : n < length entries
  pub run : IsRunBy calls kind limit (history_in (take n entries))
  pub no_run : (more : List Written) → IsRunBy calls kind limit (history_in (take (suc n) entries ++ more)) → ⊥

-- the kind has the call, if the entry is one of the owner
abbrev pub has_its_call : Kind → Entry → Bool
has_its_call kind (Own o g) = has_call kind o
has_its_call kind _ = true

-- after the entries before it is so of the call of t
abbrev pub IsSoOfCall : Kind → ℕ → ℕ → CallFact → List Entry → Type 0
IsSoOfCall kind limit t (InitAnswered r) before = (last_call kind t before).ran ≡ r
IsSoOfCall kind limit t Claimed before = (last_call kind t before).claimed ≡ true
IsSoOfCall kind limit t Passed before = (last_call kind t before).passed ≡ true
IsSoOfCall kind limit t NotFreed before = (last_call kind t before).freed ≡ false
IsSoOfCall kind limit t NoCauseForMemory before = MemoryFrom kind (last_call kind t before).began t before → ⊥
IsSoOfCall kind limit t NoCrowd before = Since t (IsCrowded kind limit t) before → ⊥
IsSoOfCall kind limit t NotFirstPoll before = (last_call kind t before).began ≢ Fresh

-- it is so of the wakers that the entry e hands out after those before it
abbrev pub IsSoOfWakers : Kind → WakersFact → Entry → List Entry → Type 0
IsSoOfWakers kind (NotOpen w) e before = (member w (handed_by e) ≡ true) × (IsOpen kind w before → ⊥)
IsSoOfWakers kind (Twice w) e before = 2 ≤ times_in w (handed_by e)
IsSoOfWakers kind (Due t w) e before =
    (status kind t before ≡ Waiting) × ((last_call kind t before).waker ≡ w)
    × (member w (handed_since t before) ≡ false) × (member w (handed_by e) ≡ false)
IsSoOfWakers kind (Count n) e before = length (handed_by e) ≡ n

-- the reason is true of the entry e after those before it
abbrev pub IsTrue : Kind → ℕ → Reason → Entry → List Entry → Type 0
IsTrue kind limit (TaskIs t s) e before = status kind t before ≡ status_of s
IsTrue kind limit (CellIs c) e before = cell kind before ≡ cell_of c
IsTrue kind limit (OfCall t f) e before = IsSoOfCall kind limit t f before
IsTrue kind limit (OfWakers f) e before = IsSoOfWakers kind f e before
IsTrue kind limit (NextAnswer a) e before = next_answer (answers_left kind before) ≡ a
IsTrue kind limit (AnswersLeft n) e before = length (answers_left kind before) ≡ n
IsTrue kind limit NoSuchCall e before = has_its_call kind e ≡ false

-- the reason is true of the entry n of the record
abbrev pub IsTrueAt : Kind → ℕ → Reason → ℕ → List Written → Type 0
IsTrueAt kind limit reason n entries =
    (e : Written) → (take (suc n) entries ≡ take n entries ++ e ∷ [])
    → IsTrue kind limit reason (entry_of e) (history_in (take n entries))

-- after entry n the cell is empty, t waits and no task was woken; before it, at each beginning one was if one had to be
pub record IsForgottenAt (kind : Kind) (entries : List Written) (n t : ℕ) : Type 0 where
  pub within : n < length entries
  pub empty : cell kind (history_in (take (suc n) entries)) ≡ Empty
  pub waits : status kind t (history_in (take (suc n) entries)) ≡ Waiting
  pub nobody : (u : ℕ) → IsCalled kind u (history_in (take (suc n) entries)) → ⊥
  pub before : AtEvery (SomebodyCalled kind) (history_in (take n entries))

-- the entries that were judged: those before the fault, or all
abbrev pub judged : Option Fault → List Written → List Written
judged (Some f) entries = take f.entry entries
judged None entries = entries
