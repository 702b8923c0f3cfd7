-- A step logs one line at most, and one that needs the queue enters it. `grind` goes through the places.
use Rattle.std.proofs.Common.{◌≡◌, ℕ, Bool, true, List, arith}
use Rattle.std.proofs.lemmas.Bool.{false≢true}
use Rattle.std.proofs.lemmas.Bool.Decides.{nat_tests}
use Rattle.std.proofs.lemmas.Grind.{common_steps}
use Rattle.once_machine.specs.Record.{Entry, Kind, is_lazy}
use Rattle.once_machine.specs.declared.record.Ran.{Ran as Answer}
use Rattle.once_machine.specs.Log.{IsAtMostOne, has_entered, need_queue}
use Rattle.once_machine.specs.Machine.{SharedState, place_lines, place_step, step_at, step_lines}
use Rattle.once_machine.specs.declared.step.Place.TheVariants.{Start as AtStart}
use Rattle.once_machine.specs.declared.step.Place.{Place}
use Rattle.once_machine.specs.declared.step.Step.{Step}
use Rattle.once_machine.specs.declared.step.Step.TheVariants.{UnderWay}
use Rattle.once_machine.proofs.Invariant.Facts.{AtPlace, AtStep}

module _ (K : Kind) (c : SharedState) (t : ℕ) (k : Answer) (h : List Entry) (limit w : ℕ) (a : Answer) (g : Bool) where
  -- one place after the other
  need_at : (p : Place ℕ ℕ) → AtPlace K limit t c h p → need_queue K (place_step (is_lazy K) limit c t w k a g p).entries h ≡ true
      → has_entered (place_lines g c p) ≡ true
  need_at AtStart z e = grind (arith, nat_tests, common_steps)
  need_at p z e = grind (arith, nat_tests, common_steps)

  -- a step that needs the queue enters it
  pub need_step : (s : Step ℕ ℕ) → AtStep K limit t c h s → need_queue K (step_at (is_lazy K) limit c t w k a g s).entries h ≡ true
      → has_entered (step_lines g c s) ≡ true
  need_step (UnderWay p) z e = need_at p z e
  need_step s z e = absurd (false≢true e)

-- a step logs one line at most
pub one_line : (g : Bool) (c : SharedState) (s : Step ℕ ℕ) → IsAtMostOne (step_lines g c s)
one_line g c s = grind (arith, common_steps)
