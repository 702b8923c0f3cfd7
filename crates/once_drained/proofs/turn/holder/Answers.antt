-- One more task does not rest with the right.
use Rattle.std.proofs.Common.{◌≡◌, false, sym, ap, ◌∙◌, arith}
use Rattle.std.proofs.lemmas.List.{take_all}
use Rattle.once_machine.specs.Numbers.{member}
use Rattle.once_machine.specs.Machine.{step_of}
use Rattle.once_script.specs.WorldShown.{world_in}
use Rattle.once_drained.specs.Turn.{rests_holding}
use Rattle.once_drained.proofs.Worlds.{each_more}
use Rattle.once_drained.proofs.turn.holder.Goals as goal

pub loop-task-preserved : goal.loop-task-preserved
loop-task-preserved c =
    each_more (λ u. rests_holding (step_of ((world_in c.args.world.now).tasks u)) ≡ false) c.args.tasks.now c.loop-task.task-index (omega arith)
    c.loop-task.invariant (sym c.rests_holding.ensures ∙ c.if-rests_holding.false)

pub returns-clause-none : goal.returns-clause-none
returns-clause-none c = λ e u m. c.loop-task.invariant u (ap (member u) (take_all c.loop-task.task-index c.args.tasks.now (omega arith)) ∙ m)
