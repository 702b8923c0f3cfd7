use Rattle.std.proofs.Common.{◌≡◌, ◌+◌}
use Rattle.once_script.proofs.ScriptLemmas.{Continues, StopsLater}
use Rattle.once_script.proofs.parse.lines.parse_lines.Given as goal

abbrev pub invariant-loop-bytes : goal.invariant-loop-bytes
invariant-loop-bytes l = (l.number ≡ l.bytes-index + 1) × Continues l.lines l.bytes-index l.read.items × StopsLater l.lines l.bytes-index
