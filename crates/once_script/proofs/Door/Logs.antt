-- Each step keeps the queue log sound, and the log tells what stands at the door.
use Rattle.std.proofs.Common.{◌≡◌, ◌<◌, ℕ, Bool, false, List, ◌++◌, Option, Some, None, refl, ◌∙◌, arith}
use Rattle.std.proofs.lemmas.Bool.Decides.{nat_tests}
use Rattle.std.proofs.lemmas.Grind.{common_steps}
use Rattle.once_machine.specs.Record.{Entry, Kind, is_lazy}
use Rattle.once_machine.specs.declared.record.Ran.{Ran as Answer}
use Rattle.once_machine.specs.Log.{IsSound, standing_queue, take_lines, was_put}
use Rattle.once_machine.specs.Machine.{SharedState, take_shared, place_lines, place_step, step_at, step_lines}
use Rattle.once_machine.specs.declared.step.Place.{Place}
use Rattle.once_machine.specs.declared.log.QueueLine.{QueueLine}
use Rattle.once_machine.specs.declared.step.Step.{Step}
use Rattle.once_machine.specs.declared.step.Step.TheVariants.{UnderWay}
use Rattle.once_machine.proofs.Invariant.Facts.{AtPlace, AtStep}

-- the log against what is shared: a number that no queue was made with yet was never put
pub record LogFits (c : SharedState) (log : List QueueLine) : Type 0 where
  pub door_is : standing_queue log ≡ c.door
  pub sound : IsSound log
  pub fresh : (q : ℕ) → c.queues < q → was_put q log ≡ false

-- the queue is taken out if one stands
pub log_take : (c : SharedState) (d : Option ℕ) (log : List QueueLine) → c.door ≡ d → LogFits c log → LogFits (take_shared c) (take_lines d ++ log)
log_take c (Some q) log e f = record { door_is = refl; sound = (f.door_is ∙ e, f.sound); fresh = f.fresh }
log_take c None log e f = record { door_is = f.door_is ∙ e; sound = f.sound; fresh = f.fresh }

-- every section is entered on the queue at the door, a queue is put only if none stands, and taken out only if it stands
module _ (K : Kind) (limit : ℕ) (c : SharedState) (t w : ℕ) (k a : Answer) (g : Bool) (h : List Entry) (log : List QueueLine) (f : LogFits c log) where
  -- one place after the other
  log_at : (p : Place ℕ ℕ) → AtPlace K limit t c h p → LogFits (place_step (is_lazy K) limit c t w k a g p).shared (place_lines g c p ++ log)
  log_at p at =
      let door = f.door_is in
      let sound = f.sound in
      let fresh = f.fresh in
      record {
        door_is = grind (arith, nat_tests, common_steps);
        sound = grind (arith, nat_tests, common_steps, fresh);
        fresh = λ q l. let n = f.fresh q in grind (arith, nat_tests, common_steps, n);
      }

  -- a step keeps the log fitting
  pub log_step : (s : Step ℕ ℕ) → AtStep K limit t c h s → LogFits (step_at (is_lazy K) limit c t w k a g s).shared (step_lines g c s ++ log)
  log_step (UnderWay p) at = log_at p at
  log_step _ at = f
