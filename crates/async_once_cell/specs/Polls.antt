-- What a poll of a cell's future answers and leaves, in the record too.
use Rattle.std.specs.Prelude.{◌≡◌, ℕ, ⊤, Bool, true, false, List, [], ◌∷◌, Option, Some, None, Result, Ok, Err}
use Rattle.std.specs.Prelude.{IfErr, IfOk, IfSome, reverse}
use Rattle.std.specs.Borrow.{Bor}
use mathlib.Core.List.{IsPrefix}
use Rattle.futures.specs.declared.task.Poll.{Poll}
use Rattle.futures.specs.declared.task.Poll.TheVariants.{Ready, Pending}
use Rattle.futures.specs.declared.task.context.Context.{Context}
use Rattle.futures.specs.Task.{IsArmed, Keeps}
use Rattle.async_once_cell.specs.declared.error.InitError.{InitError}
use Rattle.async_once_cell.specs.declared.error.InitError.TheVariants.{Init, Memory, Full}
use Rattle.async_once_cell.specs.declared.error.Refused.{Refused}
use Rattle.async_once_cell.specs.declared.error.Refused.TheVariants.{Memory as NoMemory, Full as TooMany}
use Rattle.once_machine.specs.Record.{Begin, DropBegin, DropEnd, Entry, Made, Once}
use Rattle.once_machine.specs.Tasks.{Holding, status}
use Rattle.once_machine.specs.declared.step.Ending.TheVariants.{Dropped as EndDropped, Error as EndError}
use Rattle.once_machine.specs.declared.step.Ending.TheVariants.{Full as EndFull, Memory as EndMemory}
use Rattle.once_machine.specs.declared.step.Ending.TheVariants.{Pending as EndPending, Value as EndValue}
use Rattle.once_machine.specs.declared.step.Ending.{Ending}
use Rattle.async_once_cell.specs.Inits.{MayGive}
use Rattle.async_once_cell.specs.Kept.{Grew}
use Rattle.async_once_cell.specs.Record.{gave_value}
use Rattle.async_once_cell.specs.Walks.{IsOneCall, Spans, end_of}
use Rattle.async_once_cell.specs.Tokens.{Agrees, IsSetIn}
use Rattle.async_once_cell.specs.Views.{CellView, FutureView, Owned, Shared}

-- how a poll ended that tells this error
abbrev pub ending_of_error : {E : Type 0} → InitError E → Ending
ending_of_error (Init e) = EndError
ending_of_error Memory = EndMemory
ending_of_error Full = EndFull

-- the same of a poll whose init cannot fail
abbrev pub ending_of_refusal : Refused → Ending
ending_of_refusal NoMemory = EndMemory
ending_of_refusal TooMany = EndFull

module _ {A : Type 0} where
  -- the ending of a poll with this answer, by that of what is told in place of a value
  abbrev pub ending_by : {X : Type 0} → (X → Ending) → Poll (Result A X) → Ending
  ending_by ending Pending = EndPending
  ending_by ending (Ready (Ok x)) = EndValue
  ending_by ending (Ready (Err x)) = ending x

-- all but Pending are the end of the task
abbrev pub is_over : Ending → Bool
is_over EndPending = false
is_over _ = true

-- the record grew, and its newest entry is the end of this call of the task.
-- A cell that has its owner's value has no record
abbrev pub Ends : {T : Type 0} → CellView T → Entry → List Entry → List Entry → Type 0
Ends (Owned x) e old new = (old ≡ []) × (new ≡ [])
Ends (Shared s) e old new = Grew (e ∷ []) old new

-- this poll of the task t began after all that was seen before, and this entry, with which it ended, is the newest
abbrev pub SpansIn : {T : Type 0} → CellView T → ℕ → Entry → List Entry → List Entry → Type 0
SpansIn (Owned x) t e old new = ⊤
SpansIn (Shared s) t e old new = Spans t e old new

-- in its own entries since then the task t made one call, which began and ended so
abbrev pub CallIn : {T : Type 0} → CellView T → ℕ → Entry → Entry → List Entry → List Entry → Type 0
CallIn (Owned x) t begin end old new = ⊤
CallIn (Shared s) t begin end old new = IsOneCall t begin end old new

-- the task t was made in this record, which is that of a cell that tasks share
abbrev pub MadeIn : {T : Type 0} → CellView T → ℕ → List Entry → Type 0
MadeIn (Owned x) t log = ⊤
MadeIn (Shared s) t log = (seen : List Entry) × Grew (Made t ∷ []) seen log

-- what a poll did to its future and to the context, by how it ended
pub record DidPoll {T I : Type 0} (old new : FutureView T I) (before after : Context) (e : Ending) : Type 0 where
  pub cell : new.cell ≡ old.cell  -- the cell is the same
  pub task : new.task ≡ old.task  -- the task is the same
  -- the newest entry of the record is the end of this call, with what was answered
  pub ends : Ends old.cell (end_of old.task e) old.log new.log
  -- the call began after all that was seen before
  pub spans : SpansIn old.cell old.task (end_of old.task e) old.log new.log
  -- the task's own entries since then are those of this call
  pub call : CallIn old.cell old.task (Begin old.task old.task) (end_of old.task e) old.log new.log
  pub set : e ≡ EndValue → IsSetIn new.cell new.log  -- if it answered the value, the cell is set in the record
  pub finished : new.finished ≡ is_over e  -- the future is finished exactly if the poll answered
  pub armed : e ≡ EndPending → IsArmed after  -- else it has registered its task somewhere, or asked for another poll
  pub kept : Keeps before after  -- the context keeps what it had

-- the future left its cell as by a drop
pub record HasLeft {T I : Type 0} (old new : FutureView T I) : Type 0 where
  pub cell : new.cell ≡ old.cell  -- the cell is the same
  pub task : new.task ≡ old.task  -- the task is the same
  pub gone : Ends old.cell (end_of old.task EndDropped) old.log new.log  -- the newest entry is the end of the drop
  -- the task's own entries since then are those of the drop
  pub call : CallIn old.cell old.task (DropBegin old.task) (DropEnd old.task) old.log new.log
  pub finished : new.finished ≡ true  -- the future is finished

-- a poll with a token that knew nothing is a poll, and with one that knew a value the future leaves
abbrev pub PollsAs : {T I : Type 0} → Option T → FutureView T I → FutureView T I → Context → Context → Ending → Type 0
PollsAs None old new before after e = DidPoll old new before after e
PollsAs (Some x) old new before after e = HasLeft old new × Keeps before after

-- of a cell that has its owner's value a poll answers that value
abbrev pub Answers : {T E : Type 0} → CellView T → Poll (Result (Bor T) E) → Type 0
Answers (Owned x) (Ready (Ok v)) = v.now ≡ x
Answers (Owned x) _ = ⊥
Answers (Shared s) r = ⊤

-- an answer's value is the owner's if the owner put one there, and there is no refusal; else it fits the promise
abbrev pub AnswersFit : {T E : Type 0} → (List ℕ → T → Type 0) → CellView T → Result (Bor T) E → Type 0
AnswersFit fits (Owned x) (Ok v) = v.now ≡ x
AnswersFit fits (Owned x) (Err e) = ⊥
AnswersFit fits (Shared s) (Ok v) = fits s.about v.now
AnswersFit fits (Shared s) (Err e) = ⊤

-- who has seen that the cell is set is answered a value
abbrev pub AnswersLate : {T A E : Type 0} → CellView T → List Entry → Result A E → Type 0
AnswersLate c log (Ok x) = ⊤
AnswersLate c log (Err e) = IsSetIn c log → ⊥

-- a poll of the task t was seen to begin after all that was seen before, and to end with this entry
abbrev pub SawEnd : {T : Type 0} → CellView T → ℕ → Entry → List Entry → List Entry → Type 0
SawEnd (Owned x) t e old new = ⊤
SawEnd (Shared s) t e old new = (seen : List Entry) × Spans t e old seen × IsPrefix seen new

-- in the record of a cell that tasks share the task t rests with the right
abbrev pub IsHolderIn : {T : Type 0} → CellView T → ℕ → List Entry → Type 0
IsHolderIn (Owned x) t log = ⊥
IsHolderIn (Shared s) t log = status Once t (reverse log) ≡ Holding

-- the answer is a value
abbrev pub IsValue : {A E : Type 0} → Poll (Result A E) → Type 0
IsValue (Ready (Ok x)) = ⊤
IsValue _ = ⊥

-- the future is new: it answered no value, and in the record of a cell that tasks share the newest entry made its task
abbrev pub IsMade : {T I : Type 0} → FutureView T I → Type 0
IsMade f = MadeIn f.cell f.task f.log × (f.value ≡ None)

-- the value of an answer, if it is one
abbrev pub value_of : {T E : Type 0} → Poll (Result (Bor T) E) → Option T
value_of (Ready (Ok v)) = Some v.now
value_of _ = None

-- of a future that answered a value, whether its own init gave that is told as by the record
abbrev pub TellsGave : {T A E I : Type 0} → FutureView T I → Poll (Result A E) → Type 0
TellsGave new r = IsValue r → new.gave ≡ gave_value new.task new.log

-- if the future's own init gave the value that is answered, this is one that the init might give
abbrev pub AnswersOwn : {T E I : Type 0} → (I → T → Type 0) → FutureView T I → FutureView T I
    → Poll (Result (Bor T) E) → Type 0
AnswersOwn may_give old new r = new.gave ≡ true → IfSome (value_of r) (MayGive may_give old.init)

-- what a token knew before a poll and knows after it: if a value was answered, that, which is the known one if
-- there was one; else nothing, as before
abbrev pub Polls : {T E : Type 0} → Option T → Option T → Poll (Result (Bor T) E) → Type 0
Polls old new (Ready (Ok x)) = (new ≡ Some x.now) × Agrees old x.now
Polls old new _ = (old ≡ None) × (new ≡ None)

-- the same for the answer of a wait; only a token that knew nothing is told that the thread could not wait
abbrev pub Waits : {T E X : Type 0} → Option T → Option T → Result (Result (Bor T) E) X → Type 0
Waits old new (Ok answer) = Polls old new (Ready answer)
Waits old new (Err x) = (old ≡ None) × (new ≡ None)

-- what holds of the value that a wait answers, if it answers one
abbrev pub IfValue : {T E X : Type 0} → Result (Result (Bor T) E) X → (T → Type 0) → Type 0
IfValue r P = IfOk r (λ answer. IfOk answer (λ value. P value.now))

-- what holds of the failure that a wait answers, if it answers one
abbrev pub IfFailure : {A E X : Type 0} → Result (Result A E) X → (E → Type 0) → Type 0
IfFailure r P = IfOk r (λ answer. IfErr answer P)

-- the answer of a wait is a value
abbrev pub IsValueAtOnce : {A E X : Type 0} → Result (Result A E) X → Type 0
IsValueAtOnce (Ok (Ok x)) = ⊤
IsValueAtOnce _ = ⊥
