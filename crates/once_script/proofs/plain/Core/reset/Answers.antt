-- The queue is taken out, and the word is a new one.
use Rattle.std.proofs.Common.{rules}
use Rattle.once_script.proofs.plain.Core.reset.Goals as goal

pub returns : goal.returns
returns g c = search rules
