-- The step is the one that the world shows, and the waker the one of its record.
use Rattle.std.proofs.Common.{sym, ap, ◌∙◌}
use Rattle.once_machine.specs.Machine.{step_of}
use Rattle.once_script.specs.WorldShown.{world_in}
use Rattle.once_drained.specs.Drained.{record_of}
use Rattle.once_drained.specs.Turn.{is_awake, is_woken}
use Rattle.once_drained.proofs.Quiet.{step_found, step_missed}
use Rattle.once_drained.proofs.turn.is_awake.Goals as goal

pub returns-in-Some : goal.returns-in-Some
returns-in-Some c = λ kind.
    let t = c.args.task in
    let o = (world_in c.args.world.now).tasks t in
    let woken = c.was_woken.ensures kind ∙ ap (λ h. is_woken kind t h) c.entries.ensures.entries in
    c.is_awake_at.ensures ∙ ap (λ s. is_awake s c.was_woken.result) (sym (step_found o c.in-Some.step.now c.in-Some.ensures)) ∙ ap (λ b. is_awake (step_of o) b) woken

pub returns-in-None : goal.returns-in-None
returns-in-None c = λ kind.
    let t = c.args.task in
    sym (ap (λ s. is_awake s (is_woken kind t (record_of c.args.world.now))) (step_missed ((world_in c.args.world.now).tasks t) c.in-None.ensures))
