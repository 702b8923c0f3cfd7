-- The holder comes first. If no task rests with the right and none is awake, every task is gone.
use Rattle.std.proofs.Common.{◌≡◌, false, inl, inr, refl}
use Rattle.std.proofs.lemmas.Option.{IfSome_then}
use Rattle.once_machine.specs.Machine.{step_of}
use Rattle.once_script.specs.WorldShown.{world_in}
use Rattle.once_drained.specs.Turn.{is_awake, is_woken, rests_holding}
use Rattle.once_drained.proofs.Quiet.{awake_in, each_task, fits_of, holds_in, none_left, rests_alone}
use Rattle.once_drained.proofs.turn.next.Goals as goal

pub returns-in-Some-clause-reason : goal.returns-in-Some-clause-reason
returns-in-Some-clause-reason c = λ kind limit x.
    let w = world_in c.args.world.now in
    let t = c.in-Some.task in
    inr (inl (holds_in kind limit t w.shared w.history (w.tasks t) ((fits_of kind limit c.args.world.now x).tasks t) c.in-Some.ensures.some).0)

pub returns-in-Some-clause-alone : goal.returns-in-Some-clause-alone
returns-in-Some-clause-alone c =
    let r = c.requires.reached in
    rests_alone r.0 r.1 (world_in c.args.world.now) (fits_of r.0 r.1 c.args.world.now (r.2, r.3)) c.in-Some.task c.in-Some.ensures.some

pub returns-in-None-clause-reason : goal.returns-in-None-clause-reason
returns-in-None-clause-reason c =
    let w = world_in c.args.world.now in
    IfSome_then c.awake.result c.awake.ensures.some (λ t p kind limit x.
    awake_in kind limit t w.shared w.history (w.tasks t) ((fits_of kind limit c.args.world.now x).tasks t) (p kind))

pub returns-in-None-clause-alone : goal.returns-in-None-clause-alone
returns-in-None-clause-alone c =
    IfSome_then c.awake.result c.awake.ensures.some (λ t p u d.
    each_task c.args.tasks.now (world_in c.args.world.now) (λ o u. rests_holding (step_of o) ≡ false) c.requires.tasks (λ u. refl) (c.holder.ensures.none c.in-None.is) u)

pub returns-in-None-clause-none : goal.returns-in-None-clause-none
returns-in-None-clause-none c = λ e kind limit x.
    let w = world_in c.args.world.now in
    none_left kind limit w (fits_of kind limit c.args.world.now x) c.requires.quiet
    (each_task c.args.tasks.now w (λ o u. rests_holding (step_of o) ≡ false) c.requires.tasks (λ u. refl) (c.holder.ensures.none c.in-None.is))
    (each_task c.args.tasks.now w (λ o u. is_awake (step_of o) (is_woken kind u w.history) ≡ false) c.requires.tasks (λ u. refl) (λ u m. c.awake.ensures.none e u m kind))
