-- The table of places says the same whatever the names of wakers and queues are. So a step of the code that stands for the page's does so after each call.
use Rattle.std.proofs.Common.{◌≡◌, ℕ, Option, Some, None, refl, sym, ap, ◌∙◌, arith}
use Rattle.std.specs.Option.{option_map}
use Rattle.std.proofs.lemmas.Grind.{common_steps}
use Rattle.once_machine.specs.Ops.{ticket_in}
use Rattle.once_machine.specs.declared.waiters.Answer.{Answer}
use Rattle.once_machine.specs.declared.waiters.Answer.TheVariants.{Ready, Claimed, Listed, Memory}
use Rattle.once_machine.specs.declared.step.Polled.{Polled}
use Rattle.once_machine.specs.declared.step.Polled.TheVariants.{Error}
use Rattle.once_machine.specs.Table.{Next, Told, Was, Refused, Ran, PutValue}
use Rattle.once_machine.specs.Table.{after, after_copy, after_list, after_look}
use Rattle.once_machine.specs.Table.{after_run, closing_at, next_at}
use Rattle.once_machine.specs.Steps.{leave_place, release_place, step_of_drop, step_of_poll}
use Rattle.once_machine.specs.declared.step.Ending.TheVariants.{Memory as EndMemory, Error as EndError, Value as EndValue}
use Rattle.once_machine.specs.declared.step.Ending.{Ending}
use Rattle.once_machine.specs.declared.step.Step.{Step}
use Rattle.once_machine.specs.declared.step.Place.{Place}
use Rattle.once_machine.specs.declared.step.Place.TheVariants.{Look as AtLook, List as AtList, Run as AtRun}
use Rattle.once_machine.specs.declared.step.Place.TheVariants.{Put as AtPut}
use Rattle.async_once_cell.specs.Inner.Steps.{StandsForStep, answer_as, next_as, place_as, step_as, told_as}

module _ {W V Q P : Type 0} (f : W → V) (g : Q → P) where
  -- where the right is given back
  pub release_as : (by : Option Q) (e : Ending) → place_as f g (release_place by e) ≡ release_place (option_map g by) e
  release_as by e = grind (arith, common_steps)

  -- where a task leaves
  leave_as : (q : Q) (n : Option ℕ) (e : Ending) → place_as f g (leave_place q n e) ≡ leave_place (g q) n e
  leave_as q n e = grind (arith, common_steps)

  -- a poll begins
  pub poll_as : (s : Step W Q) → step_as f g (step_of_poll s) ≡ step_of_poll (step_as f g s)
  poll_as s = grind (arith, common_steps)

  -- a drop begins
  pub drop_as : (s : Step W Q) → step_as f g (step_of_drop s) ≡ step_of_drop (step_as f g s)
  drop_as s = grind (arith, common_steps)

  -- the rows of the table after which one leaves, or gives the right back
  pub copy_as : (w : Option W) (q : Q) (k : Option ℕ) → next_as f g (after_copy w q k) ≡ after_copy (option_map f w) (g q) k
  copy_as (Some w) q k = refl
  copy_as None q k = ap closing_at (leave_as q k EndMemory)

  look_as : (a : Answer W) (w : Option W) (q : Q) (k : Option ℕ) → next_as f g (after_look a w q k) ≡ after_look (answer_as a) (option_map f w) (g q) k
  look_as Ready w q k = refl
  look_as Claimed w q k = refl
  look_as Listed w q k = refl
  look_as _ w q k = copy_as w q k

  list_as : (a : Answer W) (q : Q) (k : Option ℕ) → next_as f g (after_list a q k) ≡ after_list (answer_as a) (g q) k
  list_as Memory q k = ap closing_at (leave_as q k EndMemory)
  list_as _ q k = refl

  run_as : (a : Polled) (by : Option Q) → next_as f g (after_run a by) ≡ after_run a (option_map g by)
  run_as Error by = ap closing_at (release_as by EndError)
  run_as _ by = refl

  -- what follows a call
  pub after_as : (c : Option W) (p : Place W Q) (e : Told W Q) → next_as f g (after c p e) ≡ after (option_map f c) (place_as f g p) (told_as f g e)
  after_as c (AtLook q k) (Was p op a o) = look_as a c q (ticket_in o)
  after_as c (AtList q k w) (Was p op a o) = list_as a q (ticket_in o)
  after_as c (AtList q k w) Refused = ap closing_at (leave_as q k EndMemory)
  after_as c (AtRun by) (Ran a) = run_as a by
  after_as c (AtPut by) PutValue = ap next_at (release_as by EndValue)
  after_as c p e = grind (arith, common_steps)

module _ {W Q C : Type 0} (whose : W → ℕ) (g : Q → C) (h : ℕ → C) where
  -- so the code and the page go on alike, if both follow the same line of the table
  pub stands_after : (a : Next W Q) (b : Next ℕ ℕ) (c : Next ℕ C) → next_as whose g a ≡ c → next_as (λ w. w) h b ≡ c
      → (a.closes ≡ b.closes) × (a.progress ≡ b.progress) × StandsForStep whose g h a.step b.step
  stands_after a b c l r =
      let e = l ∙ sym r in (ap (λ (n : Next ℕ C). n.closes) e, ap (λ (n : Next ℕ C). n.progress) e, ap (λ (n : Next ℕ C). n.step) e)
