-- A step elsewhere than at `Put` is a line of the table that puts no value. So the task stands after it too.
use Rattle.std.proofs.Common.{rules, ◌≡◌, Option}
use Rattle.std.specs.Prelude.{⊤}
use Rattle.once_machine.specs.declared.step.Place.TheVariants.{Put as AtPut}
use Rattle.once_machine.specs.declared.step.Step.TheVariants.{UnderWay}
use Rattle.async_once_cell.specs.Inner.Shares.{cell_of, own}
use Rattle.async_once_cell.proofs.Walk.Logs.{walked_on}
use Rattle.async_once_cell.proofs.Walk.Calls.{step_went}
use Rattle.async_once_cell.proofs.inner.shared.Shared.one_step.Goals as goal

pub returns-in_default-clause-walked : goal.returns-in_default-clause-walked
returns-in_default-clause-walked g c = λ x v m.
    let apart : (by : Option ⊤) → c.args.step.now ≡ UnderWay (AtPut by) → ⊥ = λ by is. search rules in
    let went = step_went cell_of own g.met.S.TaskSide.tells c.requires.stands.0 c.args.step.now apart c.requires.stands.1 c.advance.ensures.line in
    walked_on went.0 m went.1.walked

pub returns-in_default-clause-stands : goal.returns-in_default-clause-stands
returns-in_default-clause-stands g c = λ drops s.
    let apart : (by : Option ⊤) → c.args.step.now ≡ UnderWay (AtPut by) → ⊥ = λ by is. search rules in
    (step_went cell_of own g.met.S.TaskSide.tells drops c.args.step.now apart s c.advance.ensures.line).1.stands
