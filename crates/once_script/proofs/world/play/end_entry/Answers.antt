-- A poll that waits ends Pending.
use Rattle.std.proofs.Common.{rules}
use Rattle.once_script.proofs.world.play.end_entry.Goals as goal

pub returns-in-Pending : goal.returns-in-Pending
returns-in-Pending c = search rules
