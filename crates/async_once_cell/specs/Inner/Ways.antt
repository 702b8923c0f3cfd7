-- What a straight way of a poll tells of the steps that it made.
use Rattle.std.specs.Prelude.{◌≡◌, ℕ, Bool, true, false, Some, ⊤}
use Rattle.pagebook.specs.Pages.{Book}
use Rattle.once_machine.specs.Steps.{leave_place, step_of_poll}
use Rattle.once_machine.specs.Table.{Next, closing_at, closing_end, next_at, next_rest}
use Rattle.once_machine.specs.declared.step.Place.TheVariants.{CountOut as AtCountOut, DoorPut as AtDoorPut}
use Rattle.once_machine.specs.declared.step.Place.TheVariants.{Run as AtRun}
use Rattle.once_machine.specs.declared.step.Progress.TheVariants.{Ended as CallEnded}
use Rattle.once_machine.specs.declared.step.Ending.TheVariants.{Memory as EndMemory, Value as EndValue}
use Rattle.once_machine.specs.declared.step.Ending.{Ending}
use Rattle.once_machine.specs.declared.step.Progress.TheVariants.{More}
use Rattle.once_machine.specs.declared.step.Place.{Place}
use Rattle.once_machine.specs.declared.step.Progress.{Progress}
use Rattle.once_machine.specs.declared.step.Rest.TheVariants.{Wait as RestWait}
use Rattle.once_machine.specs.declared.step.Step.{Step}
use Rattle.once_machine.specs.declared.step.Step.TheVariants.{UnderWay}
use Rattle.async_once_cell.specs.declared.inner.ways.Reached.{Reached}
use Rattle.async_once_cell.specs.declared.inner.ways.Reached.TheVariants.{Claimed, Ended, NoQueue, Ready}
use Rattle.async_once_cell.specs.declared.inner.ways.Reached.TheVariants.{Refused, Waits}
use Rattle.async_once_cell.specs.declared.inner.hand.Hand.{Hand}
use Rattle.async_once_cell.specs.declared.inner.shared.Shared.{Shared}
use Rattle.async_once_cell.specs.declared.inner.task.Idle.{Idle}
pub use Rattle.async_once_cell.specs.Inner.Hands.{own_of}
use Rattle.async_once_cell.specs.Inner.Idle.{step_of}
use Rattle.async_once_cell.specs.Inner.Own.{Own}
pub use Rattle.async_once_cell.specs.Inner.Shares.{cell_of, own}
use Rattle.async_once_cell.specs.Inner.Sides.{Sided}
use Rattle.async_once_cell.specs.Walks.{Stands, Walked}

-- the side, after its init was dropped or not
abbrev pub closed_if : Bool → Sided → Sided
closed_if true x = record x { has_init = false }
closed_if false x = x

-- what follows by the table of places if steps under the lock led here
abbrev pub next_by : {W : Type 0} → Reached → Next W ⊤
next_by NoQueue = next_at AtDoorPut
next_by Ready = closing_at (AtCountOut EndValue)
next_by Claimed = next_at (AtRun (Some tt))
next_by (Waits k) = next_rest (RestWait tt k)
next_by (Ended e) = closing_end e
next_by (Refused k) = closing_at (leave_place tt k EndMemory)

-- from x and v to y and w a poll made its steps; the last of them told r, and the poll stands at s
pub record Leads {W : Type 0} (whose : W → ℕ) (x : Sided) (v : Own)
    (r : Progress) (s : Step W ⊤) (y : Sided) (w : Own) : Type 0 where
  pub walked : Walked x v r y w  -- what the steps made of the record
  pub stands : Stands whose false y w r s  -- where the poll has come

module _ {W : Type 0} (whose : W → ℕ) where
  -- the poll has come so far, but for the drop of its init
  abbrev pub StandsBy : Next W ⊤ → Sided → Own → Type 0
  StandsBy n x v = Stands whose false (closed_if n.closes x) v n.progress n.step

  -- it came there by its steps
  abbrev pub LeadsBy : Sided → Own → Next W ⊤ → Sided → Own → Type 0
  LeadsBy x v n y w = Leads whose x v n.progress n.step (closed_if n.closes y) w

-- the lock of the cell with the book b is held: the desk there and the task's hand are of that book
abbrev pub IsHeld : Book → Book → Hand → Type 0
IsHeld b d h = (h.seen.book ≡ b) × (d ≡ b)

module _ {W S : Type 0} (whose : W → ℕ) (state : S → Sided) where
  -- the task whose hand this is stands at this place of a poll, and the side is its own
  abbrev pub IsUnder : Place W ⊤ → Hand → S → Type 0
  IsUnder at h s = Stands whose false (state s) (own_of h) More (UnderWay at)

  -- under the lock a poll made its steps, and came so far
  abbrev pub Reaches : Hand → S → Reached → Hand → S → Type 0
  Reaches h s r k t = LeadsBy whose (state s) (own_of h) (next_by r) (state t) (own_of k)

module _ {T W R V S : Type 0} {g : _} {h : _} {j : _} (whose : W → ℕ) (state : S → Sided) where
  -- a task stands at this place of a poll
  abbrev pub IsAt : Place W ⊤ → Shared T W R V g h j → S → Type 0
  IsAt at p s = Stands whose false (state s) (own p) More (UnderWay at)

  -- its poll began where it rested
  abbrev pub IsBegun : Idle → Shared T W R V g h j → S → Type 0
  IsBegun i p s = Stands whose false (state s) (own p) More (step_of_poll (step_of i))

  -- its poll made its steps and ended so, and where it rests now the next call begins
  pub record Polls (keeps : S → S → Type 0) (p : Shared T W R V g h j) (s : S) (e : Ending) (i : Idle)
      (q : Shared T W R V g h j) (t : S) : Type 0 where
    pub cell : cell_of q ≡ cell_of p  -- the cell is the same
    pub leads : Leads whose (state s) (own p) (CallEnded e) (step_of i) (state t) (own q)  -- by the table of places
    pub stays : keeps s t  -- the side keeps what each of its calls keeps
