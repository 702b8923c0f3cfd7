-- What holds between the machine and the history after every input.
use Rattle.std.proofs.Common.{◌≡◌, ◌≤◌, ◌<◌, ℕ, suc, Bool, true, false, List, Option, Some, None}
use Rattle.std.specs.Prelude.{◌||◌, not}
use Rattle.once_machine.specs.Numbers.{how_many, is_distinct, member}
use Rattle.once_machine.specs.Record.{Entry, Kind, made_in}
use Rattle.once_machine.specs.Cell.{SetTo, answers_left, cell, is_set}
use Rattle.once_machine.specs.Tasks.{Unmade, last_call}
use Rattle.once_machine.specs.Listings.{find_listing}
use Rattle.once_machine.specs.Run.{AtEvery, IsRun}
use Rattle.once_machine.specs.Called.{SomebodyCalled}
use Rattle.once_machine.specs.Machine.{SharedState, Task, World, is_finished, step_of}
use Rattle.once_machine.proofs.History.Cells.{is_held}
use Rattle.once_machine.proofs.History.Waiters.{QueueFits}
use Rattle.once_machine.proofs.Invariant.Facts.{AtStep, InStatus, IsSomeDoor, is_counted, is_inside, is_take, kept_of, ticket_of}

-- a task that was made and is not finished
abbrev pub is_alive : Option Task → Bool
is_alive None = false
is_alive (Some x) = not (is_finished x.step)

-- a task of the world against the history
pub record TaskFits (K : Kind) (limit t : ℕ) (c : SharedState) (h : List Entry) (x : Task) : Type 0 where
  pub waker_is : (last_call K t h).waker ≡ x.waker
  pub kept_is : x.kept ≡ kept_of (last_call K t h).ran
  pub step : AtStep K limit t c h x.step

-- one that was not made too
abbrev pub StandsFor : Kind → ℕ → ℕ → SharedState → List Entry → Option Task → Type 0
StandsFor K limit t c h None = InStatus K t h Unmade false × ((last_call K t h).waker ≡ 0) × ((last_call K t h).ran ≡ None)
StandsFor K limit t c h (Some x) = TaskFits K limit t c h x

-- the flags, the count and the door against the cell
pub record SharedFits (K : Kind) (limit : ℕ) (c : SharedState) (h : List Entry) : Type 0 where
  pub ready_is : c.ready ≡ is_set (cell K h)
  pub held_is : is_held (cell K h) ≡ (c.quick || c.head)
  pub value_is : (v : ℕ) → cell K h ≡ SetTo v → c.value ≡ v
  pub answers_is : c.answers ≡ answers_left K h
  pub within : c.count ≤ suc limit
  pub stands : c.ready ≡ false → 0 < c.count → IsSomeDoor c
  pub head_door : c.head ≡ true → IsSomeDoor c

-- the whole invariant
pub record Fits (K : Kind) (limit : ℕ) (w : World) : Type 0 where
  pub run : IsRun K limit w.history
  pub shared : SharedFits K limit w.shared w.history
  pub queue : QueueFits K w.shared.listings w.history
  pub tasks : (t : ℕ) → StandsFor K limit t w.shared w.history (w.tasks t)
  pub count_is : w.shared.count ≡ how_many (λ n. is_counted (step_of (w.tasks n))) (made_in w.history)
  pub unfinished_is : w.unfinished ≡ how_many (λ n. is_alive (w.tasks n)) (made_in w.history)
  pub made_once : is_distinct (made_in w.history) ≡ true
  pub made_all : (t : ℕ) → member t (made_in w.history) ≡ false → w.tasks t ≡ None
  pub made_only : (t : ℕ) → w.tasks t ≡ None → member t (made_in w.history) ≡ false
  pub alone : (t u : ℕ) → is_take (step_of (w.tasks t)) ≡ true → is_inside (step_of (w.tasks u)) ≡ true → ⊥
  pub single : (a b n : ℕ) → ticket_of (step_of (w.tasks a)) ≡ Some n → ticket_of (step_of (w.tasks b)) ≡ Some n → a ≡ b
  pub owned : w.shared.ready ≡ false → (n : ℕ) (o : Option ℕ) → find_listing n w.shared.listings ≡ Some o → (u : ℕ) × (ticket_of (step_of (w.tasks u)) ≡ Some n)
  pub moments : AtEvery (SomebodyCalled K) w.history
