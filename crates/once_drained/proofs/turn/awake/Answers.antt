-- One more task is not awake.
use Rattle.std.proofs.Common.{◌≡◌, false, sym, ap, ◌∙◌, arith}
use Rattle.std.proofs.lemmas.List.{take_all}
use Rattle.once_machine.specs.Numbers.{member}
use Rattle.once_machine.specs.Record.{Kind}
use Rattle.once_machine.specs.Machine.{step_of}
use Rattle.once_script.specs.WorldShown.{world_in}
use Rattle.once_drained.specs.Drained.{record_of}
use Rattle.once_drained.specs.Turn.{is_awake, is_woken}
use Rattle.once_drained.proofs.Worlds.{each_more}
use Rattle.once_drained.proofs.turn.awake.Goals as goal

pub loop-task-preserved : goal.loop-task-preserved
loop-task-preserved c =
    each_more (λ u. (kind : Kind) → is_awake (step_of ((world_in c.args.world.now).tasks u)) (is_woken kind u (record_of c.args.world.now)) ≡ false)
    c.args.tasks.now c.loop-task.task-index (omega arith) c.loop-task.invariant (λ kind. sym (c.is_awake.ensures kind) ∙ c.if-is_awake.false)

pub returns-clause-none : goal.returns-clause-none
returns-clause-none c = λ e u m. c.loop-task.invariant u (ap (member u) (take_all c.loop-task.task-index c.args.tasks.now (omega arith)) ∙ m)
