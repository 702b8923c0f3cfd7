-- A release is never refused.
use Rattle.std.proofs.Common.{rules}
use Rattle.once_script.proofs.plain.CoreParts.section.Goals as goal

pub returns-in-Release : goal.returns-in-Release
returns-in-Release g c = search rules
