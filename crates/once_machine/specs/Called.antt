-- Some task was woken (`called` in the names): this is promised of an empty cell for which a task waits. It does not
-- follow from the record being a run: a record in which a wake was lost may be a run too. And which task can go on.
use Rattle.std.specs.Prelude.{◌≡◌, ℕ, true, false, ◌⊎◌, List}
use Rattle.once_machine.specs.Numbers.{member}
use Rattle.once_machine.specs.Record.{Kind, Entry}
use Rattle.once_machine.specs.Cell.{Empty, cell}
use Rattle.once_machine.specs.Tasks.{Waiting, Holding, status, is_under_way, last_call}
use Rattle.once_machine.specs.Wakers.{handed_since}

-- t is in a poll or a drop that it began while waiting, and in which it neither claimed nor passed its turn on
pub record HasTurn (kind : Kind) (t : ℕ) (history : List Entry) : Type 0 where
  pub under_way : is_under_way (status kind t history) ≡ true  -- t is in a poll or a drop
  pub began : (last_call kind t history).began ≡ Waiting  -- it waited as that began
  pub unclaimed : (last_call kind t history).claimed ≡ false  -- it did not claim in it
  pub unpassed : (last_call kind t history).passed ≡ false  -- it did not pass its turn on in it

-- t waits, and the waker of its last poll was handed out since that poll's End
abbrev pub WaitsWoken : Kind → ℕ → List Entry → Type 0
WaitsWoken kind t history =
    (status kind t history ≡ Waiting) × (member (last_call kind t history).waker (handed_since t history) ≡ true)

-- t was woken: it waits or is in such a poll or drop,
-- and the waker of its last poll that ended Pending was handed out since that End
abbrev pub IsCalled : Kind → ℕ → List Entry → Type 0
IsCalled kind t history =
    ((status kind t history ≡ Waiting) ⊎ HasTurn kind t history)
    × (member (last_call kind t history).listed (handed_since t history) ≡ true)

-- if the cell is empty and some task waits, some task was woken
abbrev pub SomebodyCalled : Kind → List Entry → Type 0
SomebodyCalled kind history =
    cell kind history ≡ Empty → (u : ℕ) → status kind u history ≡ Waiting → (t : ℕ) × IsCalled kind t history

-- if besides no poll or drop is under way, some task that waits was woken
abbrev pub WaiterCalled : Kind → List Entry → Type 0
WaiterCalled kind history =
    ((t : ℕ) → is_under_way (status kind t history) ≡ false) → cell kind history ≡ Empty → (u : ℕ)
    → status kind u history ≡ Waiting → (t : ℕ) × WaitsWoken kind t history

-- t can go on: it is in a poll or a drop, or it rests with the right, or it waits and was woken
abbrev pub CanGoOn : Kind → ℕ → List Entry → Type 0
CanGoOn kind t history =
    (is_under_way (status kind t history) ≡ true) ⊎ (status kind t history ≡ Holding) ⊎ WaitsWoken kind t history
