-- A drop that begins is the machine's.
use Rattle.std.proofs.Common.{rules, ◌≡◌, Some, true, refl, sym, ap, ◌∙◌, arith, nat_cmp}
use Rattle.std.specs.BTreeMap.{get}
use Rattle.std.proofs.lemmas.Grind.{common_steps}
use Rattle.once_machine.specs.Steps.{is_resting, in_call}
use Rattle.once_script.specs.WorldShown.{world_in, shared_of}
use Rattle.once_script.proofs.Exactness.Worlds.{tasks_written, dropped_world, drop_goes_on, drop_ends}
use Rattle.once_script.proofs.world.play.World.begin_drop.Goals as goal

pub returns-in_ok-push-2-clause-world : goal.returns-in_ok-push-2-clause-world
returns-in_ok-push-2-clause-world c =
    let found : get nat_cmp c.args.self.now.tasks c.args.t ≡ Some c.in-Some.task.now = search rules in
    let rests : is_resting c.in-Some.task.now.step ≡ true = search rules in
    let y = record c.in-Some.task.now { step = c.begin_drop-more.new.self } in
    let tasks = tasks_written c.args.self.now.tasks (c.get_mut.follows.lender y) _ _ y found (c.get_mut.follows.holds y) in
    let step = c.begin_drop-more.ensures.step in
    let over = step ∙ drop_ends c.in-Some.task.now.step rests (sym (ap in_call step) ∙ sym c.begin_drop-more.ensures.more ∙ c.if-not-more.true) in
    dropped_world (world_in c.args.self.now) _ c.args.t c.in-Some.task.now c.begin_drop-more.new.self found rests step
    (ap (λ k. shared_of (record c.args.self.now.shared { side = k })) c.begin_drop-more.ensures.close) tasks c.still_unfinished-self.ensures (rw over (grind (arith, common_steps))) refl

pub returns-else-not-more-clause-world : goal.returns-else-not-more-clause-world
returns-else-not-more-clause-world c =
    let found : get nat_cmp c.args.self.now.tasks c.args.t ≡ Some c.in-Some.task.now = search rules in
    let rests : is_resting c.in-Some.task.now.step ≡ true = search rules in
    let y = record c.in-Some.task.now { step = c.begin_drop-more.new.self } in
    let tasks = tasks_written c.args.self.now.tasks (c.get_mut.follows.lender y) _ _ y found (c.get_mut.follows.holds y) in
    let more = drop_goes_on c.args.t c.begin_drop-more.new.self (sym c.begin_drop-more.ensures.more ∙ c.if-not-more.false) in
    dropped_world (world_in c.args.self.now) _ c.args.t c.in-Some.task.now c.begin_drop-more.new.self found rests c.begin_drop-more.ensures.step
    (ap (λ k. shared_of (record c.args.self.now.shared { side = k })) c.begin_drop-more.ensures.close) tasks c.still_unfinished-self.ensures (rw more (grind (arith, common_steps))) refl
