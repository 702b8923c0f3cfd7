-- How the poll of the task ended. What its side kept: the init that is left fails with no other error than before.
use Rattle.std.proofs.Common.{◌≡◌, ℕ, List, [], ◌∷◌, Option, sym, ◌∙◌, subst, rules}
use Rattle.std.proofs.lemmas.Bool.{false≢true}
use Rattle.once_machine.specs.declared.step.Ending.{Ending}
use Rattle.once_machine.specs.Record.{Entry}
use Rattle.async_once_cell.specs.Kept.{Grew}
use Rattle.async_once_cell.specs.Walks.{end_of}
use Rattle.pagebook.specs.Slot.{Placed}
use Rattle.async_once_cell.specs.Inits.{MayGive}
use Rattle.async_once_cell.specs.Polls.{ending_by}
use Rattle.async_once_cell.proofs.attempt.Attempt.poll.Goals as goal

pub returns-clause-end : goal.returns-clause-end
returns-clause-end g c =
    let did = c.poll-ending.new.self in
    let before : c.self.inside.task.log ≡ c.args.self.now.log = search rules in
    let old = c.args.self.now.log in
    let now = c.answer.new.self in
    let ending = ending_by g.X.Failure.ending c.answer.result in
    subst (λ (l : List Entry). Grew (end_of now.number ending ∷ []) old l) (sym c.answer.ensures.log)
    (subst (λ (n : ℕ). Grew (end_of n ending ∷ []) old did.log) (sym c.answer.ensures.number)
    (subst (λ (e : Ending). Grew (end_of did.number e ∷ []) old did.log) (sym c.answer.ensures.ending)
    (subst (λ (l : List Entry). Grew (end_of did.number c.poll-ending.result ∷ []) l did.log) before c.poll-ending.ensures.polled.end)))

-- an init that answered is gone
pub returns-clause-same : goal.returns-clause-same
returns-clause-same g c = λ x m. absurd (subst (λ (i : Option g.row.I.Denot). MayGive g.I.Init.may_fail i x) c.answer.ensures.init m)

pub returns-clause-same_values : goal.returns-clause-same_values
returns-clause-same_values g c = λ x m. absurd (subst (λ (i : Option g.row.I.Denot). MayGive g.I.Yields.may_give i x) c.answer.ensures.init m)

-- a value that the side hands over is one that the init may give, and so it fits, and the side is of the cell
pub poll-ending-requires-clause-fits : goal.poll-ending-requires-clause-fits
poll-ending-requires-clause-fits g c = λ v hands.
    let may = MayGive g.I.Yields.may_give in
    let before : c.self.inside.init ≡ c.args.self.now.init = search rules in
    let cell : c.self.inside.task.cell ≡ c.args.self.now.cell = search rules in (
      subst (λ (s : Placed). g.V.Fits.fits s.about v) (sym cell)
          (c.requires.fits v (subst (λ (i : Option g.row.I.Denot). may i v) (c.of.ensures ∙ c.take-init.ensures.value ∙ before) (hands (record {
            armed = λ armed. absurd (false≢true armed);
            fails = λ y n. subst (λ (i : Option g.row.I.Denot). MayGive g.I.Init.may_fail i y) (sym c.of.ensures) n;
            error = tt;
            gives = λ y n. subst (λ (i : Option g.row.I.Denot). may i y) (sym c.of.ensures) n;
            value = tt;
            handed = search rules;
            written = tt;
          })))),
      search rules,
    )
