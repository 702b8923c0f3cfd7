-- The steps are made, and the step where the call ended is kept.
use Rattle.std.proofs.Common.{false, sym, subst}
use Rattle.once_machine.specs.declared.step.Progress.TheVariants.{Ended}
use Rattle.async_once_cell.specs.Inner.Shares.{own}
use Rattle.async_once_cell.specs.Walks.{Stands}
use Rattle.async_once_cell.proofs.Walk.Logs.{walked_none}
use Rattle.async_once_cell.proofs.inner.shared.Shared.finish.Goals as goal

pub go_on-ending-requires : goal.go_on-ending-requires
go_on-ending-requires g c = record { stands = (false, c.requires.stands); fits = c.requires.fits }

pub returns : goal.returns
returns g c =
    record {
      cell = c.go_on-ending.ensures.cell;
      leads = record {
        walked = c.go_on-ending.ensures.walked _ _ (walked_none _ _);
        stands = subst
            (λ s. Stands g.W.TaskWaker.whose false (g.S.TaskSide.state c.go_on-ending.new.side) (own c.go_on-ending.new.self) (Ended c.go_on-ending.result) s)
            (sym c.of-self.ensures.is) (c.go_on-ending.ensures.stands false c.requires.stands);
      };
      stays = c.go_on-ending.ensures.stays;
    }
