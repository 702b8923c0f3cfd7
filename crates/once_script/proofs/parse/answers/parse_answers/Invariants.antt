use Rattle.std.proofs.Common.{map}
use Rattle.once_script.specs.Answer.{AreListed}
use Rattle.once_script.proofs.parse.answers.parse_answers.Given as goal

abbrev pub invariant-loop-field : goal.invariant-loop-field
invariant-loop-field l = AreListed l.answers.items (map (λ field. field.now) l.yielded)
