-- Each step comes nearer the end of its call, and a call is refused memory only after a step that was given none. `grind`
-- goes through the places.
use Rattle.std.proofs.Common.{◌≡◌, ◌<◌, ℕ, Bool, true, false, ◌⊎◌, List, arith}
use Rattle.std.proofs.lemmas.Bool.{false≢true}
use Rattle.std.proofs.lemmas.Bool.Decides.{nat_tests}
use Rattle.std.proofs.lemmas.Grind.{common_steps}
use Rattle.once_machine.specs.Record.{Entry, Kind, is_lazy}
use Rattle.once_machine.specs.declared.record.Ran.{Ran as Answer}
use Rattle.once_machine.specs.Inputs.{ends_for_memory}
use Rattle.once_machine.specs.Machine.{Outcome, SharedState}
use Rattle.once_machine.specs.declared.step.Place.TheVariants.{CountOut as AtCountOut, DoorTake as AtDoorTake, Leave as AtLeave, Start as AtStart}
use Rattle.once_machine.specs.declared.step.Ending.TheVariants.{Memory as EndMemory}
use Rattle.once_machine.specs.declared.step.Ending.{Ending}
use Rattle.once_machine.specs.declared.step.Place.{Place}
use Rattle.once_machine.specs.Machine.{in_call, left_at, left_of, place_step, step_at}
use Rattle.once_machine.specs.declared.step.Step.{Step}
use Rattle.once_machine.specs.declared.step.Step.TheVariants.{UnderWay}
use Rattle.once_machine.proofs.Invariant.Facts.{AtPlace, AtStep}

-- the call ends for want of memory
abbrev is_memory : Ending → Bool
is_memory EndMemory = true
is_memory _ = false

-- a place from which the call will end for want of memory; no holder's call ends so
abbrev is_refused_at : Place ℕ ℕ → Bool
is_refused_at (AtLeave q n e) = is_memory e
is_refused_at (AtCountOut e) = is_memory e
is_refused_at (AtDoorTake e) = is_memory e
is_refused_at _ = false

-- the same of a step
abbrev pub is_refused : Step ℕ ℕ → Bool
is_refused (UnderWay p) = is_refused_at p
is_refused _ = false

-- what a step from s tells
pub record StepTells (g : Bool) (s : Step ℕ ℕ) (o : Outcome) : Type 0 where
  pub lowers : in_call o.step ≡ true → left_of o.step < left_of s
  pub refuses : is_refused o.step ≡ true → (is_refused s ≡ true) ⊎ (g ≡ false)
  pub memory : (u : ℕ) → ends_for_memory u o.entries ≡ true → (is_refused s ≡ true) ⊎ (g ≡ false)

module _ (K : Kind) (c : SharedState) (t : ℕ) (k : Answer) (h : List Entry) (limit w : ℕ) (a : Answer) (g : Bool) where
  -- the outcome at a place
  abbrev at : Place ℕ ℕ → Outcome
  at p = place_step (is_lazy K) limit c t w k a g p

  lowers_at : (p : Place ℕ ℕ) → in_call (at p).step ≡ true → left_of (at p).step < left_at p
  lowers_at AtStart e = grind (arith, nat_tests, common_steps)
  lowers_at p e = grind (arith, nat_tests, common_steps)

  refuses_at : (p : Place ℕ ℕ) → AtPlace K limit t c h p → is_refused (at p).step ≡ true → (is_refused_at p ≡ true) ⊎ (g ≡ false)
  refuses_at AtStart z e = grind (arith, nat_tests, common_steps)
  refuses_at p z e = grind (arith, nat_tests, common_steps)

  memory_at : (p : Place ℕ ℕ) → AtPlace K limit t c h p → (u : ℕ) → ends_for_memory u (at p).entries ≡ true
      → (is_refused_at p ≡ true) ⊎ (g ≡ false)
  memory_at AtStart z u e = grind (arith, nat_tests, common_steps)
  memory_at p z u e = grind (arith, nat_tests, common_steps)

  -- what each step tells
  pub tells : (s : Step ℕ ℕ) → AtStep K limit t c h s → in_call s ≡ true → StepTells g s (step_at (is_lazy K) limit c t w k a g s)
  tells (UnderWay p) z n = record { lowers = lowers_at p; refuses = refuses_at p z; memory = memory_at p z }
  tells s z n = absurd (false≢true n)
