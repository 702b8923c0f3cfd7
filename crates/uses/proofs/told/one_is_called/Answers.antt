use Rattle.async_once_cell.specs.Record.{Once}
use Rattle.async_once_cell.specs.Called.{SomebodyCalled}
use Rattle.uses.proofs.Runs.{at_the_newest}
use Rattle.uses.proofs.told.one_is_called.Goals as goal

pub returns : goal.returns
returns g c = λ shared. at_the_newest (SomebodyCalled Once) _ (c.is_run.ensures.called shared)
