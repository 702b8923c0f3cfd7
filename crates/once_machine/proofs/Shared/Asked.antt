-- What the calls of a step ask of what all tasks share: it stands wherever a task comes to make that step.
use Rattle.std.proofs.Common.{◌≡◌, ◌<◌, ℕ, true, ◌⊎◌, List, Option, Some, None, refl, ap, ◌∙◌, subst, arith}
use Rattle.std.specs.Prelude.{not}
use Rattle.std.proofs.lemmas.Grind.{common_steps}
use Rattle.once_machine.specs.Record.{Entry, Kind}
use Rattle.once_machine.specs.Cell.{cell}
use Rattle.once_machine.specs.Inputs.{Go, Input, Make}
use Rattle.once_machine.specs.Machine.{AtAddOne, AtCountOut, AtRelease, SharedState, Place, Step, Task, UnderWay, World, world_of, step_of}
use Rattle.once_machine.specs.Can.{CanAdvance, CanStep, MayTake, TaskCan}
use Rattle.once_machine.proofs.History.Cells.{holder_unset}
use Rattle.once_machine.proofs.Invariant.Facts.{AtPlace, AtStep, HeadFlag, QuickFlag, is_counted, is_counted_at}
use Rattle.once_machine.proofs.Invariant.Fits.{Fits, SharedFits}
use Rattle.once_machine.proofs.Shared.Unfinished.{unfinished_within}
use Rattle.once_machine.proofs.Invariant.Kept.{releasing_holds}
use Rattle.once_machine.proofs.Invariant.Moves.{in_count}
use Rattle.once_machine.proofs.Input.Headline.{task_fits, world_fits}

-- exactly one flag stands for a holder
pub one_flag : (c : SharedState) → QuickFlag c ⊎ HeadFlag c → c.head ≡ not c.quick
one_flag c f = grind (arith, common_steps)

module _ {K : Kind} {limit : ℕ} (t : ℕ) where
  -- one place after the other
  asked_at : {c : SharedState} {h : List Entry} (p : Place ℕ ℕ) → SharedFits K limit c h
      → (is_counted_at p ≡ true → 0 < c.count) → AtPlace K limit t c h p → CanStep limit c p
  asked_at (AtAddOne e) f n a = a.2
  asked_at (AtCountOut e) f n a = n refl
  asked_at {c = c} {h = h} (AtRelease q e) f n a = λ _. (f.ready_is ∙ holder_unset t (cell K h) (releasing_holds K t c h e a.0), one_flag c a.1)
  asked_at p f n a = tt

  module _ {w : World} (f : Fits K limit w) where
    -- what the next step of a task with a call under way asks
    pub asked : (x : Task) (p : Place ℕ ℕ) → w.tasks t ≡ Some x → x.step ≡ UnderWay p → CanStep limit w.shared p
    asked x p found at =
        let own = task_fits K limit t w x f found in
        let stands : AtPlace K limit t w.shared w.history p = subst (λ s. AtStep K limit t w.shared w.history s) at own.step in
        asked_at p f.shared (λ e. in_count K limit w t f (ap (λ o. is_counted (step_of o)) found ∙ ap is_counted at ∙ e)) stands

    -- the same by the step of the task: without a call under way nothing is asked
    asked_step : (x : Task) (s : Step ℕ ℕ) → w.tasks t ≡ Some x → x.step ≡ s → CanAdvance limit w.shared s
    asked_step x (UnderWay p) found at = asked x p found at
    asked_step x _ found at = tt

    -- and by whether the task is there
    asked_task : (o : Option Task) → w.tasks t ≡ o → TaskCan limit w.shared o
    asked_task (Some x) found = asked_step x x.step found refl
    asked_task None found = tt

-- every input may be taken after every list of inputs
pub may_take : (kind : Kind) (limit : ℕ) (inputs : List Input) (i : Input) → 0 < limit → MayTake limit (world_of kind limit inputs) i
may_take kind limit inputs (Go t a g) some = let w = world_of kind limit inputs in asked_task t (world_fits kind limit inputs some) (w.tasks t) refl
may_take kind limit inputs (Make t) some = let w = world_of kind limit inputs in unfinished_within kind limit w (world_fits kind limit inputs some)
may_take kind limit inputs i some = tt
