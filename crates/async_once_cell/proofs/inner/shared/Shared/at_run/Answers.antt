-- The poll of the init is its line of the table. If the init is over, it is closed, and the value is put or the right given back.
use Rattle.std.proofs.Common.{◌∙◌, refl, sym, subst}
use Rattle.std.specs.Prelude.{⊤}
use Rattle.once_machine.specs.declared.step.Polled.TheVariants.{Pending, Value, Error}
use Rattle.once_machine.specs.declared.step.Ending.TheVariants.{Pending as EndPending}
use Rattle.once_machine.specs.declared.step.Progress.TheVariants.{Ended}
use Rattle.once_machine.specs.declared.step.Step.{Step}
use Rattle.async_once_cell.specs.Inner.Shares.{own}
use Rattle.async_once_cell.specs.Inner.Ways.{Leads}
use Rattle.async_once_cell.proofs.Promise.{fits_on}
use Rattle.async_once_cell.proofs.Walk.Ways.{onward, ran}
use Rattle.async_once_cell.proofs.inner.shared.Shared.at_run.Goals as goal

pub returns-in-Pending : goal.returns-in-Pending
returns-in-Pending g c =
    record {
      cell = c.in-Pending.ensures.did.0;
      leads = subst (λ (s : Step g.row.W.Denot ⊤). Leads g.W.TaskWaker.whose (g.S.TaskSide.state c.args.side.now) (own c.args.self.now) (Ended EndPending) s
          (g.S.TaskSide.state c.run.new.side) (own c.run.new.self)) (sym c.of-self.ensures.is)
          (ran g.W.TaskWaker.whose c.args.by Pending _ c.requires.stands c.in-Pending.ensures.did.1 (g.met.S.TaskSide.tells.run _ _ _ c.in-Pending.ensures.ran) refl);
      stays = c.in-Pending.ensures.stays;
    }

pub returns-in-Value : goal.returns-in-Value
returns-in-Value g c =
    let tells = g.met.S.TaskSide.tells in
    record {
      cell = c.at_put.ensures.cell ∙ c.in-Value.ensures.did.0;
      leads = onward g.W.TaskWaker.whose
          (ran g.W.TaskWaker.whose c.args.by Value _ c.requires.stands c.in-Value.ensures.did.1 (tells.run _ _ _ c.in-Value.ensures.ran) (tells.close _ _ c.close.ensures.did))
          c.at_put.ensures.leads;
      stays = g.met.S.Side.stays_on _ _ _ (g.met.S.Side.stays_on _ _ _ c.in-Value.ensures.stays c.close.ensures.stays) c.at_put.ensures.stays;
    }

pub returns-in-Error : goal.returns-in-Error
returns-in-Error g c =
    let tells = g.met.S.TaskSide.tells in
    record {
      cell = c.give_back.ensures.cell ∙ c.in-Error.ensures.did.0;
      leads = onward g.W.TaskWaker.whose
          (ran g.W.TaskWaker.whose c.args.by Error _ c.requires.stands c.in-Error.ensures.did.1 (tells.run _ _ _ c.in-Error.ensures.ran) (tells.close _ _ c.close-in-Error.ensures.did))
          c.give_back.ensures.leads;
      stays = g.met.S.Side.stays_on _ _ _ (g.met.S.Side.stays_on _ _ _ c.in-Error.ensures.stays c.close-in-Error.ensures.stays) c.give_back.ensures.stays;
    }

pub give_back-requires : goal.give_back-requires
give_back-requires g c =
    let tells = g.met.S.TaskSide.tells in
    record {
      stands = (ran g.W.TaskWaker.whose c.args.by Error _ c.requires.stands c.in-Error.ensures.did.1 (tells.run _ _ _ c.in-Error.ensures.ran) (tells.close _ _ c.close-in-Error.ensures.did)).stands;
    }

pub at_put-requires-clause-fits : goal.at_put-requires-clause-fits
at_put-requires-clause-fits g c =
    fits_on g.V.Fits.fits g.met.S.TaskSide.hands_on g.met.S.TaskSide.slot_on c.requires.fits
    (g.met.S.Side.stays_on _ _ _ c.in-Value.ensures.stays c.close.ensures.stays) c.in-Value.ensures.did.0
