-- A `run` line is sixteen steps.
use Rattle.once_script.proofs.play.take_line.Goals as goal

pub returns-in-Run-clause-after : goal.returns-in-Run-clause-after
returns-in-Run-clause-after c = λ kind limit inputs is.
    rw c.in-Run.is (c.run.ensures.after kind limit inputs is)
