-- If no call is under way, the world stands after the other steps too.
use Rattle.std.proofs.Common.{rules, ◌≤◌, arith}
use Rattle.once_machine.specs.Machine.{IsIdle}
use Rattle.once_script.specs.WorldShown.{world_in}
use Rattle.once_script.proofs.Exactness.Idle.{rest_passed_over}
use Rattle.once_script.proofs.world.play.World.run.Goals as goal

pub returns-then-is_idle-clause-after : goal.returns-then-is_idle-clause-after
returns-then-is_idle-clause-after c = λ kind limit inputs is.
    let within : c.loop.counter ≤ c.args.steps = omega (arith, c.loop.auto.counter-end) in
    let idle : IsIdle ((world_in c.loop.self).tasks c.args.task) = search rules in
    rest_passed_over kind limit c.args.task c.args.answer c.args.granted inputs c.loop.self c.loop.counter c.args.steps within (c.loop.invariant.1 kind limit inputs is) idle
