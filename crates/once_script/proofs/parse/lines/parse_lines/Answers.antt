use Rattle.std.proofs.Common.{arith}
use Rattle.std.proofs.lemmas.Grind.{common_steps}
use Rattle.once_script.proofs.ScriptLemmas.{turn, ends, next}
use Rattle.once_script.proofs.parse.lines.parse_lines.Goals as goal

pub loop-bytes-preserved : goal.loop-bytes-preserved
loop-bytes-preserved c = (
  grind (arith, common_steps),
  turn _ _ _ _ _ _ (omega arith) (rw c.in-Some.is at c.in_ok-line.ensures) c.in_ok-push.ensures.items c.loop-bytes.invariant.1,
  next _ _ _ _ (omega arith) (rw c.in-Some.is at c.in_ok-line.ensures) c.loop-bytes.invariant.2,
)

pub returns-clause-read : goal.returns-clause-read
returns-clause-read c = ends _ _ _ (omega arith) c.loop-bytes.invariant.1
