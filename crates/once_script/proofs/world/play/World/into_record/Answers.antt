-- The record has the entries and the queue of the world.
use Rattle.std.proofs.Common.{refl}
use Rattle.once_script.proofs.world.play.World.into_record.Goals as goal

pub returns-clause-entries : goal.returns-clause-entries
returns-clause-entries c = refl

pub returns-clause-queue : goal.returns-clause-queue
returns-clause-queue c = refl
