-- A go makes a step.
use Rattle.std.proofs.Common.{rules}
use Rattle.once_script.proofs.world.play.World.apply.Goals as goal

pub returns-in-Go-clause-world : goal.returns-in-Go-clause-world
returns-in-Go-clause-world c = search rules
