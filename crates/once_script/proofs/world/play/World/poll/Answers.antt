-- A poll that begins is the machine's.
use Rattle.std.proofs.Common.{rules, ◌≡◌, Some, true, refl, arith, nat_cmp}
use Rattle.std.specs.BTreeMap.{get}
use Rattle.std.proofs.lemmas.Grind.{common_steps}
use Rattle.once_machine.specs.Steps.{is_resting}
use Rattle.once_script.specs.WorldShown.{world_in}
use Rattle.once_script.proofs.Exactness.Worlds.{tasks_written, begun_world}
use Rattle.once_script.proofs.world.play.World.poll.Goals as goal

pub returns-clause-world : goal.returns-clause-world
returns-clause-world c =
    let found : get nat_cmp c.args.self.now.tasks c.args.t ≡ Some c.in-Some.task.now = search rules in
    let rests : is_resting c.in-Some.task.now.step ≡ true = search rules in
    let y = record c.in-Some.task.now { waker = c.args.waker; step = c.begin.new.self } in
    let tasks = tasks_written c.args.self.now.tasks (c.get_mut.follows.lender y) _ _ y found (c.get_mut.follows.holds y) in
    begun_world (world_in c.args.self.now) _ c.args.t c.args.waker c.in-Some.task.now c.begin.new.self found rests c.begin.ensures refl tasks refl (grind (arith, common_steps)) refl
