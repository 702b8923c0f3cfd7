-- No input led to a world that is new.
use Rattle.std.proofs.Common.{[], rules}
use Rattle.once_machine.specs.Shown.{kind_of}
use Rattle.once_script.proofs.world.play.World.new.Goals as goal

pub returns-clause-after : goal.returns-clause-after
returns-clause-after c = search rules

pub returns-clause-reached : goal.returns-clause-reached
returns-clause-reached c = (kind_of c.args.kind, c.args.limit, [], returns-clause-after c)
