-- Sixteen steps end the call of one task, and change no other.
use Rattle.std.proofs.Common.{◌≡◌, ◌++◌, true, false, get_or, ap, ◌∙◌, arith, replicate, refl}
use Rattle.std.proofs.lemmas.Bool.{false≢true}
use Rattle.std.proofs.lemmas.List.{take_all}
use Rattle.once_machine.specs.Numbers.{member}
use Rattle.once_machine.specs.Inputs.{Go}
use Rattle.once_machine.specs.Machine.{in_call, step_of}
use Rattle.once_script.specs.WorldShown.{world_in}
use Rattle.once_drained.specs.Drained.{record_of}
use Rattle.once_drained.proofs.Polled.{continued_both, continued_none, moved_continued}
use Rattle.once_drained.proofs.Quiet.{each_task}
use Rattle.once_drained.proofs.Worlds.{each_more, ran_moved, ran_quiet, still_quiet, still_unmade}
use Rattle.once_drained.proofs.end_calls.Goals as goal

pub loop-task-init : goal.loop-task-init
loop-task-init c = (c.requires.reached, λ kind limit x. (x, continued_none kind (record_of c.args.world.now)), c.requires.tasks, λ u m. absurd (false≢true m))

pub loop-task-preserved : goal.loop-task-preserved
loop-task-preserved c =
    let X = c.args.tasks.now in
    let i = c.loop-task.task-index in
    let t = get_or X i 0 in
    let a = c.args.answer in
    let w = c.loop-task.world in
    let v = c.run.new.self in
    let r = c.loop-task.invariant.0 in
    let after = c.in_ok-run.ensures.after in
    let m = ran_moved r.0 r.1 t a r.2 w v
    r.3 (after r.0 r.1 r.2 r.3) in
    let quiet = ran_quiet r.0 r.1 t a r.2 w v
    r.3 (after r.0 r.1 r.2 r.3) in (
      c.in_ok-run.ensures.reached,
      λ kind limit x.
          let before = c.loop-task.invariant.1 kind limit x in
          let y = before.0 in
          let z = after kind limit y.0 y.1 in (
            (replicate 16 (Go t a true) ++ y.0, z),
            continued_both kind (record_of c.args.world.now) (record_of w) (record_of v) before.1
                (moved_continued kind t a (world_in w) (world_in v) (ran_moved kind limit t a y.0 w v
                y.1 z)),
          ),
      λ u e. still_unmade r.0 t a (world_in w) (world_in v) m
          u (c.loop-task.invariant.2 u e),
      each_more (λ u. in_call (step_of ((world_in v).tasks u)) ≡ false) X i (omega arith)
          (λ u e. still_quiet r.0 t a (world_in w) (world_in v) m
          quiet u (c.loop-task.invariant.3 u e)) quiet,
    )

pub returns-clause-quiet : goal.returns-clause-quiet
returns-clause-quiet c =
    each_task c.args.tasks.now (world_in c.loop-task.world) (λ o u. in_call (step_of o) ≡ false) c.loop-task.invariant.2 (λ u. refl)
    (λ u m. c.loop-task.invariant.3 u (ap (member u) (take_all c.loop-task.task-index c.args.tasks.now (omega arith)) ∙ m))

pub returns-clause-world : goal.returns-clause-world
returns-clause-world c = λ kind limit x. (c.loop-task.invariant.1 kind limit x).0

pub returns-clause-continued : goal.returns-clause-continued
returns-clause-continued c = λ kind limit x. (c.loop-task.invariant.1 kind limit x).1
