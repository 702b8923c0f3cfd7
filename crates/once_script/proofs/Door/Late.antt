-- A queue at the door of a set cell has a task in the count, or one that sees to it.
use Rattle.std.proofs.Common.{◌≡◌, ◌<◌, ℕ, Bool, true, false, ◌⊎◌, List, arith}
use Rattle.std.proofs.lemmas.Bool.Decides.{nat_tests}
use Rattle.std.proofs.lemmas.Grind.{common_steps}
use Rattle.once_machine.specs.Record.{Entry, Kind, is_lazy}
use Rattle.once_machine.specs.declared.record.Ran.{Ran as Answer}
use Rattle.once_machine.specs.Machine.{SharedState, place_step, step_at}
use Rattle.once_machine.specs.declared.step.Place.TheVariants.{CountIn as AtCountIn, DoorTake as AtDoorTake, Start as AtStart}
use Rattle.once_machine.specs.declared.step.Place.{Place}
use Rattle.once_machine.specs.declared.step.Step.{Step}
use Rattle.once_machine.specs.declared.step.Step.TheVariants.{UnderWay}
use Rattle.once_machine.proofs.Invariant.Facts.{AtPlace, AtStep, IsSomeDoor, is_counted, is_counted_at, is_take, is_take_at}
use Rattle.once_machine.proofs.Invariant.Fits.{SharedFits}
use Rattle.once_machine.proofs.Invariant.Around.{Around}

-- the places whose task will see to the queue at the door of a set cell
abbrev is_late_at : Place ℕ ℕ → Bool
is_late_at (AtCountIn q) = true
is_late_at (AtDoorTake e) = true
is_late_at _ = false

-- the same of a step
abbrev pub is_late : Step ℕ ℕ → Bool
is_late (UnderWay p) = is_late_at p
is_late _ = false

-- Other: another task is late
abbrev pub Clean : SharedState → Step ℕ ℕ → Type 0 → Type 0
Clean c s Other = c.ready ≡ true → IsSomeDoor c → (0 < c.count) ⊎ ((is_late s ≡ true) ⊎ Other)

module _ (K : Kind) (limit t w : ℕ) (k : Answer) (c : SharedState) (h : List Entry) (some : 0 < limit) (shared : SharedFits K limit c h) (Other : Type 0) where
  -- one place after the other, by `grind`
  clean_at : (a : Answer) (g : Bool) (p : Place ℕ ℕ) → Around K t (is_counted_at p) (is_take_at p) c h
      → AtPlace K limit t c h p → Clean c (UnderWay p) Other
      → Clean (place_step (is_lazy K) limit c t w k a g p).shared (place_step (is_lazy K) limit c t w k a g p).step Other
  clean_at a g AtStart ar at n r d = grind (arith, nat_tests, common_steps)
  clean_at a g p ar at n r d = let counts = ar.own_count in grind (arith, nat_tests, common_steps, counts)

  -- every step of a task whose call is under way
  pub clean_step : (a : Answer) (g : Bool) (s : Step ℕ ℕ) → Around K t (is_counted s) (is_take s) c h
      → AtStep K limit t c h s → Clean c s Other
      → Clean (step_at (is_lazy K) limit c t w k a g s).shared (step_at (is_lazy K) limit c t w k a g s).step Other
  clean_step a g (UnderWay p) ar at n = clean_at a g p ar at n
  clean_step a g _ ar at n = n
