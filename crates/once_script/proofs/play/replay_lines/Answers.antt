-- The inputs of the next line lead on.
use Rattle.std.proofs.Common.{◌≡◌, ◌++◌, ◌+◌, arith, take}
use Rattle.std.proofs.lemmas.Grind.{common_steps}
use Rattle.std.proofs.lemmas.List.{map-append, reverse-append, append-nil}
use Rattle.once_machine.specs.Shown.{kind_of, inputs_in}
use Rattle.once_script.specs.Text.{inputs_of, all_inputs}
use Rattle.once_script.proofs.play.replay_lines.Goals as goal

pub loop-line-preserved : goal.loop-line-preserved
loop-line-preserved c =
    let before = take c.loop-line.line-index c.args.lines.now in
    let line = c.line-item.result in
    let same : inputs_in (all_inputs (take (c.loop-line.line-index + 1) c.args.lines.now)) ≡ inputs_in (inputs_of line) ++ inputs_in (all_inputs before) =
    grind (arith, common_steps, map-append, reverse-append, append-nil, c.line-item.is) in
    rw (same) (c.in_ok-take_line.ensures.after (kind_of c.args.kind) c.args.limit (inputs_in (all_inputs before)) c.loop-line.invariant)
