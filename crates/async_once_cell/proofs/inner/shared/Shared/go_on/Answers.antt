-- After each step the task stands, so it may make the next one.
use Rattle.std.proofs.Common.{◌≡◌, false, rules, arith, refl, ◌∙◌, subst}
use Rattle.once_machine.specs.Steps.{in_call}
use Rattle.async_once_cell.specs.Inner.Shares.{own}
use Rattle.async_once_cell.specs.Walks.{Stands, Walked}
use Rattle.async_once_cell.proofs.Promise.{fits_on}
use Rattle.async_once_cell.proofs.Walk.Ends.{told_end}
use Rattle.async_once_cell.proofs.inner.shared.Shared.go_on.Goals as goal

pub loop-self-init : goal.loop-self-init
loop-self-init g c = (search rules, refl, λ x v m. m, λ drops s. s)

pub one_step-told-requires-clause-stands : goal.one_step-told-requires-clause-stands
one_step-told-requires-clause-stands g c = let s = c.requires.stands in (s.0, c.loop-self.invariant.3 s.0 s.1)

pub loop-self-preserved : goal.loop-self-preserved
loop-self-preserved g c = (
  g.met.S.Side.stays_on _ _ _ c.loop-self.invariant.0 c.one_step-told.ensures.stays,
  c.one_step-told.ensures.cell ∙ c.loop-self.invariant.1,
  λ x v m. c.one_step-told.ensures.walked x v (c.loop-self.invariant.2 x v m),
  λ drops s. c.one_step-told.ensures.stands drops (c.loop-self.invariant.3 drops s),
)

pub unreachable-requires : goal.unreachable-requires
unreachable-requires g c =
    let s = c.requires.stands in
    let over : in_call c.loop-self.step ≡ false = c.left.ensures.idle.0 (omega (arith, c.loop-self-test.false)) in
    let end = told_end (g.S.TaskSide.state c.loop-self.side) (own c.loop-self.self) s.0 c.loop-self.told c.loop-self.step (c.loop-self.invariant.3 s.0 s.1).fits over in
    c.in_default.not-Ended end.0 end.1

pub returns-clause-stands : goal.returns-clause-stands
returns-clause-stands g c = λ drops s. subst
    (λ r. Stands g.W.TaskWaker.whose drops (g.S.TaskSide.state c.loop-self.side) (own c.loop-self.self) r c.loop-self.step)
    c.in-Ended.is (c.loop-self.invariant.3 drops s)

pub returns-clause-walked : goal.returns-clause-walked
returns-clause-walked g c = λ x v m. subst (λ r. Walked x v r (g.S.TaskSide.state c.loop-self.side) (own c.loop-self.self)) c.in-Ended.is (c.loop-self.invariant.2 x v m)

pub one_step-told-requires-clause-fits : goal.one_step-told-requires-clause-fits
one_step-told-requires-clause-fits g c = fits_on g.V.Fits.fits g.met.S.TaskSide.hands_on g.met.S.TaskSide.slot_on c.requires.fits c.loop-self.invariant.0 c.loop-self.invariant.1
