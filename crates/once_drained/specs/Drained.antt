-- What draining a world leaves: which polls were made, and that no task is left.
use Rattle.std.specs.Prelude.{◌≡◌, ◌⊎◌, ℕ, List, [], ◌∷◌, ◌++◌, Some}
use Rattle.once_machine.specs.declared.record.Ran.TheVariants.{Pending as RanPending}
use Rattle.once_machine.specs.Record.{Kind, Entry, Made, Begin, DropBegin, Look, Own}
use Rattle.once_machine.specs.Tasks.{Fresh, Holding, status, last_call}
use Rattle.once_machine.specs.Called.{WaitsWoken}
use Rattle.once_machine.specs.Inputs.{Input}
use Rattle.once_script.specs.declared.world.play.World.{World}
use Rattle.once_script.specs.Reached.{IsAfter}
use Rattle.once_script.specs.WorldShown.{world_in}

-- some inputs led a cell of this kind with this limit to the world
abbrev pub IsWorldOf : Kind → ℕ → World → Type 0
IsWorldOf kind limit w = (inputs : List Input) × IsAfter kind limit inputs w

-- the record of a world, the newest entry first
abbrev pub record_of : World → List Entry
record_of w = (world_in w).history

-- there is a reason to poll t: it was never polled, or it rests with the right, or it waits and was woken
abbrev pub HasReason : Kind → ℕ → List Entry → Type 0
HasReason kind t history =
    (status kind t history ≡ Fresh) ⊎ (status kind t history ≡ Holding) ⊎ WaitsWoken kind t history

-- after the entries before, this one begins a poll for which there is a reason, or goes on with a call. So no task is
-- made or dropped, nobody looks for the value, and the owner does nothing
abbrev pub IsReasoned : Kind → Entry → List Entry → Type 0
IsReasoned kind (Begin t w) before = HasReason kind t before
IsReasoned kind (Made t) before = ⊥
IsReasoned kind (DropBegin t) before = ⊥
IsReasoned kind (Look found) before = ⊥
IsReasoned kind (Own o g) before = ⊥
IsReasoned kind _ before = Unit {0}

-- each of these entries, which came after those before
abbrev pub AreReasoned : Kind → List Entry → List Entry → Type 0
AreReasoned kind [] before = Unit {0}
AreReasoned kind (e ∷ es) before = IsReasoned kind e (es ++ before) × AreReasoned kind es before

-- the record before was continued by such entries alone
pub record IsContinued (kind : Kind) (before after : List Entry) : Type 0 where
  pub entries : List Entry  -- what came to it
  pub record_is : after ≡ entries ++ before  -- nothing of it was changed
  pub reasoned : AreReasoned kind entries before  -- each poll had a reason

-- t rests with the right, and its last poll of the init was Pending
abbrev pub IsInitPending : Kind → ℕ → List Entry → Type 0
IsInitPending kind t history =
    (status kind t history ≡ Holding) × ((last_call kind t history).ran ≡ Some RanPending)
