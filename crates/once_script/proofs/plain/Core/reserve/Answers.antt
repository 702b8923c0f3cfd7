-- There is room for one more of both.
use Rattle.std.proofs.Common.{rules}
use Rattle.once_script.proofs.plain.Core.reserve.Goals as goal

pub returns-clause-room : goal.returns-clause-room
returns-clause-room g c = search rules
