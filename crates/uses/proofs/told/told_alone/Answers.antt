-- The law speaks of the newest entry of a run, and what a run began with is one.
use Rattle.std.proofs.Common.{subst}
use Rattle.async_once_cell.specs.Record.{Once}
use Rattle.async_once_cell.specs.Run.{IsRun}
use Rattle.async_once_cell.specs.Kept.{most}
use Rattle.uses.proofs.Runs.{run_before}
use Rattle.uses.proofs.told.told_alone.Goals as goal

pub returns : goal.returns
returns g c = λ shared t e later before is.
    (c.error_is_ones_own.ensures.own Once most t e before (run_before Once most later _ (subst (IsRun Once most) is (c.is_run.ensures.run shared)))).0
