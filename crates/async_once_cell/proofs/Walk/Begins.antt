-- Where a call begins, and what is known when it has ended.
use Rattle.std.proofs.Common.{◌≡◌, ℕ, true, false, List, [], ◌∷◌, ◌++◌, append_assoc, reverse, refl, sym, ap, ◌∙◌, subst, arith}
use Rattle.std.specs.Prelude.{⊤}
use Rattle.std.proofs.lemmas.Bool.{false≢true}
use Rattle.std.proofs.lemmas.Grind.{common_steps}
use mathlib.Core.List.{IsPrefix}
use Rattle.once_machine.specs.Steps.{in_call, is_resting, step_of_drop, step_of_poll}
use Rattle.once_machine.specs.declared.step.Ending.TheVariants.{Dropped as EndDropped}
use Rattle.once_machine.specs.declared.step.Progress.TheVariants.{More}
use Rattle.once_machine.specs.declared.step.Rest.TheVariants.{Run as RestRun, Start as RestStart, Wait as RestWait}
use Rattle.once_machine.specs.declared.step.Step.TheVariants.{Resting}
use Rattle.once_machine.specs.declared.step.Step.{Step}
use Rattle.once_machine.specs.Record.{Begin, DropBegin, DropEnd, Entry}
use Rattle.once_machine.specs.Book.{TaskState}
use Rattle.once_machine.specs.Machine.{drop_entries}
use Rattle.async_once_cell.specs.Kept.{Grew, entries_of}
use Rattle.async_once_cell.specs.Inner.Steps.{step_as}
use Rattle.async_once_cell.proofs.Moments.Steps.{drop_as, poll_as}
use Rattle.async_once_cell.specs.Inner.Own.{Own, Turned}
use Rattle.async_once_cell.specs.Inner.Places.{task_begun, task_dropping}
use Rattle.async_once_cell.specs.Inner.Sides.{HasClosed, IsReady, Sided}
use Rattle.async_once_cell.specs.Walks.{Fits, GoesOn, IsCall, Rests, Stands, the_queue}
use Rattle.async_once_cell.proofs.Desks.{prefix_on}
use Rattle.async_once_cell.proofs.Walk.Fits.{leave_fits, release_fits}

module _ {W : Type 0} (x : Sided) (w : Own) where
  -- a poll fits where it begins
  poll_fits : (s : Step W ⊤) → is_resting s ≡ true → GoesOn false x w → Fits false x w More (step_of_poll s)
  poll_fits (Resting RestStart) rests b = (refl, b)
  poll_fits (Resting (RestWait q k)) rests b = (refl, b)
  poll_fits (Resting (RestRun by)) rests b = (refl, b)
  poll_fits _ rests b = absurd (false≢true rests)

  -- a drop fits where it begins, if it has steps to make
  drop_fits : (s : Step W ⊤) → x.woke ≡ [] → is_resting s ≡ true → in_call (step_of_drop s) ≡ true → Fits true x w More (step_of_drop s)
  drop_fits (Resting RestStart) none rests call = absurd (false≢true call)
  drop_fits (Resting (RestWait q k)) none rests call = (refl, leave_fits W true x w q k EndDropped (none, tt))
  drop_fits (Resting (RestRun by)) none rests call = (refl, release_fits W true x w by EndDropped (none, tt))
  drop_fits _ none rests call = absurd (false≢true rests)

module _ {W : Type 0} {whose : W → ℕ} {x : Sided} {v w : Own} (s : Step W ⊤) (number : x.number ≡ v.number) (none : x.woke ≡ []) where
  -- a task that rests begins a poll
  pub poll_begins : IsReady x → Rests whose v s → Turned v (task_begun v.number v.task) (Begin v.number v.number ∷ []) w → Stands whose false x w More (step_of_poll s)
  poll_begins init is d = record {
    step = poll_as whose (λ (q : ⊤). q) s ∙ ap step_of_poll is.1 ∙ sym (poll_as (λ w. w) the_queue v.task.step) ∙ ap (λ (y : TaskState). step_as (λ w. w) the_queue y.step) (sym d.task);
    number = number ∙ sym d.number;
    fits = poll_fits x w s is.0 ((refl, none, ap (λ (y : TaskState). y.waker) d.task ∙ sym d.number), init);
  }

  -- a task that rests begins a drop
  pub drop_begins : Rests whose v s → Turned v (task_dropping v.task) (reverse (drop_entries v.number (step_of_drop v.task.step))) w → in_call (step_of_drop s) ≡ true
      → Stands whose true x w More (step_of_drop s)
  drop_begins is d call = record {
    step = drop_as whose (λ (q : ⊤). q) s ∙ ap step_of_drop is.1 ∙ sym (drop_as (λ w. w) the_queue v.task.step) ∙ ap (λ (y : TaskState). step_as (λ w. w) the_queue y.step) (sym d.task);
    number = number ∙ sym d.number;
    fits = drop_fits x w s none is.0 call;
  }

-- a step rests whose names are others
rests_as : {W V Q P : Type 0} (f : W → V) (g : Q → P) (s : Step W Q) → is_resting (step_as f g s) ≡ is_resting s
rests_as f g s = grind (arith, common_steps)

-- the task rests where the code's step does
pub rests_there : {W : Type 0} (whose : W → ℕ) (s : Step W ⊤) (y : Step ℕ ℕ) → is_resting s ≡ true → step_as whose (λ q. q) s ≡ step_as (λ w. w) the_queue y → is_resting y ≡ true
rests_there whose s y rests same = sym (rests_as (λ w. w) the_queue y) ∙ sym (ap is_resting same) ∙ rests_as whose (λ q. q) s ∙ rests

-- a drop begins so after the init was dropped
pub stands_closed : {W : Type 0} {whose : W → ℕ} (x : Sided) {y : Sided} {v w : Own} (s : Step W ⊤) {t : Step W ⊤} → HasClosed x y
    → t ≡ step_of_drop s → (x.number ≡ v.number) × (x.woke ≡ []) → Rests whose v s
    → Turned v (task_dropping v.task) (reverse (drop_entries v.number (step_of_drop v.task.step))) w → in_call t ≡ true → Stands whose true y w More t
stands_closed {whose = whose} x {y = y} {w = w} s closed at (number, none) rests did call = subst (Stands whose true y w More) (sym at)
    (drop_begins s (ap (λ (x : Sided). x.number) closed ∙ number) (ap (λ (x : Sided). x.woke) closed ∙ none) rests did (ap in_call (sym at) ∙ call))

-- a task whose drop has no step was never polled
never_polled : {W : Type 0} (whose : W → ℕ) (v : Own) (s : Step W ⊤) (y : Step ℕ ℕ) → is_resting s ≡ true
    → step_as whose (λ q. q) s ≡ step_as (λ w. w) the_queue y → in_call (step_of_drop s) ≡ false → y ≡ Resting RestStart
never_polled whose v s y rests is over = grind (arith, common_steps)

-- the last entry of some is the newest
pub grew_last : (e : Entry) (es old new : List Entry) → Grew (es ++ e ∷ []) old new → Grew (e ∷ []) old new
grew_last e es old new g = (g.0 ++ es, prefix_on old g.0 (g.0 ++ es) g.1 (es, refl), g.2 ∙ sym (append_assoc g.0 es (e ∷ [])))

-- a log that grew from a later one
pub grew_from : (es a b c : List Entry) → IsPrefix a b → Grew es b c → Grew es a c
grew_from es a b c p g = (g.0, prefix_on a b g.0 p g.1, g.2)

-- its drop begins and ends at once
pub drop_alone : {W : Type 0} (whose : W → ℕ) (v w : Own) (s : Step W ⊤) → Rests whose v s → in_call (step_of_drop s) ≡ false
    → Turned v (task_dropping v.task) (reverse (drop_entries v.number (step_of_drop v.task.step))) w
    → Grew (DropBegin v.number ∷ DropEnd v.number ∷ []) v.log w.log × IsCall v.number (DropBegin v.number) (DropEnd v.number) [] v.log w.log
drop_alone whose v w s rests over d =
    let never = never_polled whose v s v.task.step rests.0 rests.1 over in (
      subst (λ y. Grew (reverse (drop_entries v.number (step_of_drop y))) v.log w.log) never d.log,
      record { own = subst (λ y. entries_of v.number w.log ≡ entries_of v.number v.log ++ reverse (drop_entries v.number (step_of_drop y))) never d.mine; between = tt },
    )

-- a drop that has steps to make adds its beginning at first
begins_alone : {W : Type 0} (whose : W → ℕ) (t : ℕ) (s : Step W ⊤) (y : Step ℕ ℕ) → is_resting s ≡ true
    → step_as whose (λ q. q) s ≡ step_as (λ w. w) the_queue y → in_call (step_of_drop s) ≡ true → reverse (drop_entries t (step_of_drop y)) ≡ DropBegin t ∷ []
begins_alone whose t s y rests is call = grind (arith, common_steps)

-- the beginning of such a drop, by the task's own entries
pub drop_opens : {W : Type 0} (whose : W → ℕ) (v w : Own) (s : Step W ⊤) → Rests whose v s → in_call (step_of_drop s) ≡ true
    → Turned v (task_dropping v.task) (reverse (drop_entries v.number (step_of_drop v.task.step))) w → entries_of v.number w.log ≡ entries_of v.number v.log ++ DropBegin v.number ∷ []
drop_opens whose v w s rests call d = d.mine ∙ ap (λ l. entries_of v.number v.log ++ l) (begins_alone whose v.number s v.task.step rests.0 rests.1 call)
