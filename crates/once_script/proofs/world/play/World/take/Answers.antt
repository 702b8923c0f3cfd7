-- What is applied is one input more.
use Rattle.std.proofs.Common.{◌∷◌, sym, ap, ◌∙◌}
use Rattle.std.proofs.lemmas.Result.{on_ok_weaker}
use Rattle.once_machine.specs.Machine.{world_after}
use Rattle.once_machine.specs.Shown.{input_of}
use Rattle.once_script.specs.WorldShown.{world_in}
use Rattle.once_machine.proofs.Shared.Asked.{may_take}
use Rattle.once_script.proofs.world.play.World.take.Goals as goal

pub apply-requires : goal.apply-requires
apply-requires c =
    let r = c.requires.reached in
    record { may = rw (r.3.bound, r.3.world) (may_take r.0 r.1 r.2 (input_of c.args.input.now) r.3.some) }

pub returns-clause-after : goal.returns-clause-after
returns-clause-after c = λ kind limit inputs a.
    let i = input_of c.args.input.now in
    let same = ap (λ n. world_after kind n (world_in c.args.self.now) i) a.bound ∙ ap (λ w. world_after kind limit w i) a.world in
    on_ok_weaker c.apply.result
    (λ h. record { world = h ∙ same; lazy = c.apply.ensures.lazy ∙ a.lazy; bound = c.apply.ensures.limit ∙ a.bound; some = a.some; within = a.within })
    (c.apply.ensures.world kind (sym a.lazy))

pub returns-clause-reached : goal.returns-clause-reached
returns-clause-reached c =
    let r = c.requires.reached in
    on_ok_weaker c.apply.result (λ h. (r.0, r.1, input_of c.args.input.now ∷ r.2, h)) (returns-clause-after c r.0 r.1 r.2 r.3)
