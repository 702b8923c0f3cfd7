-- The second look at the door is its line of the table.
use Rattle.std.proofs.Common.{refl, None, Some, subst}
use Rattle.once_machine.specs.declared.waiters.Answer.TheVariants.{Released}
use Rattle.once_machine.specs.declared.waiters.Op.TheVariants.{Release}
use Rattle.once_machine.specs.Table.{Got, Was, next_at}
use Rattle.once_machine.specs.declared.step.Place.TheVariants.{CountOut as AtCountOut, DoorAgain as AtDoorAgain, Release as AtRelease}
use Rattle.async_once_cell.specs.Inner.Hands.{own_of}
use Rattle.async_once_cell.specs.Inner.Parts.{DidCall}
use Rattle.async_once_cell.proofs.Walk.Ways.{led}
use Rattle.async_once_cell.proofs.inner.shared.Inner.lock_at_add_one.Goals as goal

pub returns-then-not-get-clause-leads : goal.returns-then-not-get-clause-leads
returns-then-not-get-clause-leads g c =
    led g.W.TaskWaker.whose (AtDoorAgain c.args.ending) (Got None) (next_at (AtCountOut c.args.ending)) refl refl (None, refl) c.requires.stands c.if-not-get.ensures.did refl refl

pub returns-clause-leads : goal.returns-clause-leads
returns-clause-leads g c = (
  own_of c.get.new.hand,
  led g.W.TaskWaker.whose (AtDoorAgain c.args.ending) (Got (Some tt)) (next_at (AtRelease tt c.args.ending)) refl refl (Some tt, refl) c.requires.stands c.if-not-get.ensures.did refl refl,
  subst (λ b. DidCall g.W.TaskWaker.whose (own_of c.get.new.hand) (Was tt (Release b) (Released c.release.result) (Release b)) (own_of c.release.new.hand))
      c.is_value.ensures c.release.ensures.did,
)
