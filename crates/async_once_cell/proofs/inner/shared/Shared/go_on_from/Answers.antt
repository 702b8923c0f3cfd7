-- The init is closed if the table says so, and the poll goes on from where its steps under the lock led.
use Rattle.std.proofs.Common.{false, refl, sym, subst}
use Rattle.once_machine.specs.Steps.{leave_place}
use Rattle.once_machine.specs.declared.step.Place.TheVariants.{CountOut as AtCountOut}
use Rattle.once_machine.specs.declared.step.Ending.TheVariants.{Memory as EndMemory, Value as EndValue}
use Rattle.once_machine.specs.declared.step.Progress.TheVariants.{More}
use Rattle.once_machine.specs.declared.step.Step.TheVariants.{UnderWay}
use Rattle.async_once_cell.specs.Inner.Shares.{cell_of, own}
use Rattle.async_once_cell.specs.Walks.{Stands}
use Rattle.async_once_cell.specs.Inner.Ways.{Leads, LeadsBy, StandsBy, next_by}
use Rattle.async_once_cell.proofs.Promise.{fits_on}
use Rattle.async_once_cell.proofs.Walk.Ways.{onward}
use Rattle.async_once_cell.proofs.inner.shared.Shared.go_on_from.Goals as goal

pub at_run-requires : goal.at_run-requires
at_run-requires g c = record {
  stands = subst (λ r. StandsBy g.W.TaskWaker.whose (next_by r) (g.S.TaskSide.state c.args.side.now) (own c.args.self.now)) c.in-Claimed.is c.requires.stands;
  fits = c.requires.fits;
}

pub at_count_out-requires : goal.at_count_out-requires
at_count_out-requires g c = record {
  stands = subst (λ y. Stands g.W.TaskWaker.whose false y (own c.args.self.now) More (UnderWay (AtCountOut EndValue))) (sym (g.met.S.TaskSide.tells.close _ _ c.close.ensures.did))
      (subst (λ r. StandsBy g.W.TaskWaker.whose (next_by r) (g.S.TaskSide.state c.args.side.now) (own c.args.self.now)) c.in-Ready.is c.requires.stands);
}

pub returns-in-Ready-clause-leads : goal.returns-in-Ready-clause-leads
returns-in-Ready-clause-leads g c = λ x v so_far.
    let at = subst (λ r. LeadsBy g.W.TaskWaker.whose x v (next_by r) (g.S.TaskSide.state c.args.side.now) (own c.args.self.now)) c.in-Ready.is so_far in
    onward g.W.TaskWaker.whose
    (subst (λ y. Leads g.W.TaskWaker.whose x v More (UnderWay (AtCountOut EndValue)) y (own c.args.self.now)) (sym (g.met.S.TaskSide.tells.close _ _ c.close.ensures.did)) at)
    c.at_count_out.ensures.leads

pub returns-in-Claimed-clause-leads : goal.returns-in-Claimed-clause-leads
returns-in-Claimed-clause-leads g c = λ x v so_far.
    let at = subst (λ r. LeadsBy g.W.TaskWaker.whose x v (next_by r) (g.S.TaskSide.state c.args.side.now) (own c.args.self.now)) c.in-Claimed.is so_far in
    onward g.W.TaskWaker.whose at c.at_run.ensures.leads

pub returns-in-Refused-clause-leads : goal.returns-in-Refused-clause-leads
returns-in-Refused-clause-leads g c = λ x v so_far.
    let at = subst (λ r. LeadsBy g.W.TaskWaker.whose x v (next_by r) (g.S.TaskSide.state c.args.side.now) (own c.args.self.now)) c.in-Refused.is so_far in
    let free = subst (λ y. Leads g.W.TaskWaker.whose x v More (UnderWay (leave_place tt c.in-Refused.ticket EndMemory)) y (own c.args.self.now))
    (sym (g.met.S.TaskSide.tells.close _ _ c.close-in-Refused.ensures.did)) at in
    onward g.W.TaskWaker.whose free c.finish.ensures.leads

pub finish-requires-in-NoQueue : goal.finish-requires-in-NoQueue
finish-requires-in-NoQueue g c = record {
  stands = subst (λ r. StandsBy g.W.TaskWaker.whose (next_by r) (g.S.TaskSide.state c.args.side.now) (own c.args.self.now)) c.in-NoQueue.is c.requires.stands;
  fits = c.requires.fits;
}

pub returns-in-NoQueue-clause-leads : goal.returns-in-NoQueue-clause-leads
returns-in-NoQueue-clause-leads g c = λ x v so_far.
    let at = subst (λ r. LeadsBy g.W.TaskWaker.whose x v (next_by r) (g.S.TaskSide.state c.args.side.now) (own c.args.self.now)) c.in-NoQueue.is so_far in
    onward g.W.TaskWaker.whose at c.finish-in-NoQueue.ensures.leads

pub finish-requires-clause-fits : goal.finish-requires-clause-fits
finish-requires-clause-fits g c = fits_on g.V.Fits.fits g.met.S.TaskSide.hands_on g.met.S.TaskSide.slot_on {c = cell_of c.args.self.now} c.requires.fits c.close-in-Refused.ensures.stays refl
