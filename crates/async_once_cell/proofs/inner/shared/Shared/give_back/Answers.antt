-- A holder with the queue releases under the lock, and one without tries the fast release.
use Rattle.std.proofs.Common.{false, subst}
use Rattle.once_machine.specs.Steps.{release_place}
use Rattle.once_machine.specs.declared.step.Progress.TheVariants.{More}
use Rattle.once_machine.specs.declared.step.Step.TheVariants.{UnderWay}
use Rattle.async_once_cell.specs.Inner.Shares.{own}
use Rattle.async_once_cell.specs.Walks.{Stands}
use Rattle.async_once_cell.proofs.inner.shared.Shared.give_back.Goals as goal

pub at_fast-requires : goal.at_fast-requires
at_fast-requires g c = record {
  stands = subst (λ by. Stands g.W.TaskWaker.whose false (g.S.TaskSide.state c.args.side.now) (own c.args.self.now) More (UnderWay (release_place by c.args.ending)))
      c.in-None.is c.requires.stands;
}

pub at_release-requires : goal.at_release-requires
at_release-requires g c = record {
  stands = subst (λ by. Stands g.W.TaskWaker.whose false (g.S.TaskSide.state c.args.side.now) (own c.args.self.now) More (UnderWay (release_place by c.args.ending)))
      c.in-Some.is c.requires.stands;
}
