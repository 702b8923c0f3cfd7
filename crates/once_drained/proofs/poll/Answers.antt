-- The poll and its sixteen steps are one poll in a quiet world.
use Rattle.std.proofs.Common.{◌++◌, ◌∷◌, true, sym, ◌∙◌, replicate, ⊎_elim}
use Rattle.std.proofs.lemmas.Bool.{cases_Bool}
use Rattle.once_machine.specs.Inputs.{Go, Poll}
use Rattle.once_drained.proofs.Worlds.{polled_so}
use Rattle.once_drained.proofs.poll.Goals as goal

pub returns-clause-world : goal.returns-clause-world
returns-clause-world c = λ kind limit x.
    let begun = c.in_ok-take.ensures.after kind limit x.0 x.1 in (
      replicate 16 (Go c.args.task c.args.answer true) ++ (Poll c.args.task c.args.task ∷ x.0),
      c.in_ok-run.ensures.after kind limit (Poll c.args.task c.args.task ∷ x.0) begun,
    )

pub returns-clause-continued : goal.returns-clause-continued
returns-clause-continued c = λ kind limit x.
    let t = c.args.task in
    let y = c.in_ok-run.ensures.after kind limit (Poll t t ∷ x.0) (c.in_ok-take.ensures.after kind limit x.0 x.1) in
    (polled_so kind limit t c.args.answer x.0 c.args.world.now c.run.new.self
    x.1 t y c.requires.quiet c.requires.alone (c.requires.reason kind limit x)).continued

pub returns-clause-tasks : goal.returns-clause-tasks
returns-clause-tasks c =
    let t = c.args.task in
    let r = c.requires.reached in
    let y = c.in_ok-run.ensures.after r.0 r.1 (Poll t t ∷ r.2) (c.in_ok-take.ensures.after r.0 r.1 r.2 r.3) in
    (polled_so r.0 r.1 t c.args.answer r.2 c.args.world.now c.run.new.self
    r.3 t y c.requires.quiet c.requires.alone (c.requires.reason r.0 r.1 (r.2, r.3))).unmade

pub returns-clause-quiet : goal.returns-clause-quiet
returns-clause-quiet c =
    let t = c.args.task in
    let r = c.requires.reached in
    let y = c.in_ok-run.ensures.after r.0 r.1 (Poll t t ∷ r.2) (c.in_ok-take.ensures.after r.0 r.1 r.2 r.3) in
    (polled_so r.0 r.1 t c.args.answer r.2 c.args.world.now c.run.new.self
    r.3 t y c.requires.quiet c.requires.alone (c.requires.reason r.0 r.1 (r.2, r.3))).quiet

pub returns-clause-fewer : goal.returns-clause-fewer
returns-clause-fewer c = λ e.
    let t = c.args.task in
    let r = c.requires.reached in
    let y = c.in_ok-run.ensures.after r.0 r.1 (Poll t t ∷ r.2) (c.in_ok-take.ensures.after r.0 r.1 r.2 r.3) in
    (polled_so r.0 r.1 t c.args.answer r.2 c.args.world.now c.run.new.self
    r.3 t y c.requires.quiet c.requires.alone (c.requires.reason r.0 r.1 (r.2, r.3))).fewer (sym c.is_finished.ensures ∙ e)

pub returns-clause-pending : goal.returns-clause-pending
returns-clause-pending c = λ kind limit x e.
    let t = c.args.task in
    let y = c.in_ok-run.ensures.after kind limit (Poll t t ∷ x.0) (c.in_ok-take.ensures.after kind limit x.0 x.1) in
    ((polled_so kind limit t c.args.answer x.0 c.args.world.now c.run.new.self
    x.1 t y c.requires.quiet c.requires.alone (c.requires.reason kind limit x)).pending (sym c.is_finished.ensures ∙ e)).0

pub returns-clause-answered : goal.returns-clause-answered
returns-clause-answered c = λ kind limit x once gives.
    let t = c.args.task in
    let y = c.in_ok-run.ensures.after kind limit (Poll t t ∷ x.0) (c.in_ok-take.ensures.after kind limit x.0 x.1) in
    let p = polled_so kind limit t c.args.answer x.0 c.args.world.now c.run.new.self
    x.1 t y c.requires.quiet c.requires.alone (c.requires.reason kind limit x) in
    ⊎_elim (λ e. e) (λ e. absurd (gives ((p.pending (sym c.is_finished.ensures ∙ e)).1 once))) (cases_Bool c.is_finished.result)
