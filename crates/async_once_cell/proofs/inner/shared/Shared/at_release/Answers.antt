-- The release is its line of the table, and then the task counts out.
use Rattle.std.proofs.Common.{subst}
use Rattle.once_machine.specs.declared.waiters.Answer.TheVariants.{Released}
use Rattle.once_machine.specs.declared.waiters.Op.TheVariants.{Release}
use Rattle.once_machine.specs.Steps.{is_value}
use Rattle.once_machine.specs.Table.{Was}
use Rattle.async_once_cell.specs.Inner.Hands.{own_of}
use Rattle.async_once_cell.specs.Inner.Parts.{DidCall}
use Rattle.async_once_cell.specs.Inner.Shares.{own}
use Rattle.async_once_cell.proofs.Walk.Ways.{onward, released}
use Rattle.async_once_cell.proofs.inner.shared.Shared.at_release.Goals as goal

pub returns : goal.returns
returns g c =
    let out = c.lock_at_release-out.result in
    let did = subst (λ b. DidCall g.W.TaskWaker.whose (own c.args.self.now) (Was tt (Release b) (Released out) (Release b)) (own_of c.lock_at_release-out.new.hand))
    c.is_value.ensures c.lock_at_release-out.ensures.did in
    record {
      cell = c.at_count_out.ensures.cell;
      leads = onward g.W.TaskWaker.whose
          (released g.W.TaskWaker.whose c.args.ending out (Release (is_value c.args.ending)) c.requires.stands did (g.met.S.TaskSide.tells.wake _ _ _ c.wake.ensures.did))
          c.at_count_out.ensures.leads;
      stays = c.wake.ensures.stays;
    }

pub at_count_out-requires : goal.at_count_out-requires
at_count_out-requires g c =
    let out = c.lock_at_release-out.result in
    let did = subst (λ b. DidCall g.W.TaskWaker.whose (own c.args.self.now) (Was tt (Release b) (Released out) (Release b)) (own_of c.lock_at_release-out.new.hand))
    c.is_value.ensures c.lock_at_release-out.ensures.did in
    record {
      stands = (released g.W.TaskWaker.whose c.args.ending out (Release (is_value c.args.ending)) c.requires.stands did (g.met.S.TaskSide.tells.wake _ _ _ c.wake.ensures.did)).stands;
    }
