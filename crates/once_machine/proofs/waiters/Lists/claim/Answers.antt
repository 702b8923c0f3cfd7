-- While a task holds, nothing is claimed; a claim takes the own listing out.
use Rattle.std.proofs.Common.{rules}
use Rattle.once_machine.proofs.waiters.Lists.claim.Goals as goal

pub returns-in-Taken-clause-held : goal.returns-in-Taken-clause-held
returns-in-Taken-clause-held g c = search rules
