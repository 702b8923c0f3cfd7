-- A task that rests begins a poll, and stands at its beginning.
use Rattle.std.proofs.Common.{◌≡◌, true, false, ◌∙◌, ap, sym, subst}
use Rattle.once_machine.specs.Steps.{is_resting}
use Rattle.once_machine.specs.declared.step.Progress.TheVariants.{More}
use Rattle.async_once_cell.specs.Inner.Shares.{own}
use Rattle.async_once_cell.specs.Inner.Sides.{IsReady, Sided}
use Rattle.async_once_cell.specs.Walks.{Stands}
use Rattle.async_once_cell.proofs.Walk.Begins.{poll_begins}
use Rattle.machine_tests.proofs.scenes.walker.Walker.poll.Goals as goal

pub invariant_of-self : goal.invariant_of-self
invariant_of-self g c =
    let task = c.args.self.now in
    let rests : is_resting task.step ≡ true = sym c.is_resting.ensures ∙ c.if-not-is_resting.false in
    let before = task.has_init rests in
    let init : IsReady c.begin.new.self = (
      ap (λ (x : Sided). x.has_init) c.begin.ensures ∙ before.0,
      ap (λ (x : Sided). x.has_value) c.begin.ensures ∙ before.1,
      ap (λ (x : Sided). x.has_shown) c.begin.ensures ∙ before.2,
    ) in
    let begun = poll_begins {whose = λ b. b.mark.value} {x = c.begin.new.self} task.step
    (ap (λ (x : Sided). x.number) c.begin.ensures ∙ task.same) (ap (λ (x : Sided). x.woke) c.begin.ensures) init (rests, task.rests rests) c.begin-2.ensures.did in
    let stands = subst (Stands (λ b. b.mark.value) false c.begin.new.self (own c.begin-2.new.self) More) (sym c.begin-3.ensures) begun in
    record { same = stands.number; goes = λ h. stands; rests = λ h. stands.step; has_init = λ h. init }
