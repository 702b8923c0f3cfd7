-- The poll begins, its steps are made, and so it ends.
use Rattle.std.proofs.Common.{◌≡◌, rules, refl, sym, ap, ◌∙◌}
use Rattle.once_machine.specs.Steps.{step_of_poll}
use Rattle.async_once_cell.specs.declared.inner.task.Idle.{Idle}
use Rattle.async_once_cell.specs.declared.inner.task.Idle.TheVariants.{New}
use Rattle.async_once_cell.specs.Inner.Idle.{step_of}
use Rattle.async_once_cell.specs.Inner.Shares.{own}
use Rattle.async_once_cell.specs.Inner.Tasks.{TaskView}
use Rattle.async_once_cell.proofs.Idles.{rests}
use Rattle.async_once_cell.proofs.Promise.{fits_there}
use Rattle.async_once_cell.proofs.Walk.Begins.{rests_there}
use Rattle.async_once_cell.proofs.Walk.Polls.{begins_at, polled}
use Rattle.async_once_cell.proofs.inner.task.Task.poll_steps.Goals as goal

pub begin-requires : goal.begin-requires
begin-requires g c =
    let live = ap (λ (t : TaskView). t.finished) c.self.view_is ∙ c.requires.live in
    record { can = rests_there g.W.TaskWaker.whose (step_of c.self.inside.parts.idle) (own c.self.inside.parts).task.step (rests _ c.self.inside.parts.idle live) (c.self.inside.stands live) }

pub by_steps-requires : goal.by_steps-requires
by_steps-requires g c =
    let live = ap (λ (t : TaskView). t.finished) c.self.view_is ∙ c.requires.live in
    let number = c.requires.number ∙ sym (ap (λ (t : TaskView). t.number) c.self.view_is) in
    record {
      live = live;
      stands = begins_at c.self.inside.parts.idle (number, c.requires.nobody_woken, c.requires.init) live (c.self.inside.stands live) c.begin.ensures.did refl;
      fits = fits_there g.S.Side.hands g.S.TaskSide.has_slot g.V.Fits.fits c.requires.fits (c.begin.ensures.cell ∙ ap (λ (t : TaskView). t.cell) c.self.view_is);
    }

pub at_start-requires : goal.at_start-requires
at_start-requires g c =
    let live = ap (λ (t : TaskView). t.finished) c.self.view_is ∙ c.requires.live in
    let number = c.requires.number ∙ sym (ap (λ (t : TaskView). t.number) c.self.view_is) in
    let new : c.self.inside.parts.idle ≡ New = search rules in
    record {
      stands = begins_at c.self.inside.parts.idle (number, c.requires.nobody_woken, c.requires.init) live (c.self.inside.stands live) c.begin.ensures.did
          (ap (λ (i : Idle). step_of_poll (step_of i)) new);
      fits = fits_there g.S.Side.hands g.S.TaskSide.has_slot g.V.Fits.fits c.requires.fits (c.begin.ensures.cell ∙ ap (λ (t : TaskView). t.cell) c.self.view_is);
    }

pub later-requires : goal.later-requires
later-requires g c =
    let live = ap (λ (t : TaskView). t.finished) c.self.view_is ∙ c.requires.live in
    let number = c.requires.number ∙ sym (ap (λ (t : TaskView). t.number) c.self.view_is) in
    record {
      live = live;
      stands = begins_at c.self.inside.parts.idle (number, c.requires.nobody_woken, c.requires.init) live (c.self.inside.stands live) c.begin.ensures.did refl;
      fits = fits_there g.S.Side.hands g.S.TaskSide.has_slot g.V.Fits.fits c.requires.fits (c.begin.ensures.cell ∙ ap (λ (t : TaskView). t.cell) c.self.view_is);
    }

pub returns-then-not-copies_under_lock-clause-polled : goal.returns-then-not-copies_under_lock-clause-polled
returns-then-not-copies_under_lock-clause-polled g c = rw (← c.self.view_is)
    (polled _ _ _ c.by_steps.new.self.idle (c.requires.nobody_woken, c.requires.init) c.begin.ensures.did c.by_steps.ensures.leads.walked c.by_steps.ensures.leads.stands)

pub returns-in-New-clause-polled : goal.returns-in-New-clause-polled
returns-in-New-clause-polled g c = rw (← c.self.view_is)
    (polled _ _ _ c.at_start.new.self.idle (c.requires.nobody_woken, c.requires.init) c.begin.ensures.did c.at_start.ensures.leads.walked c.at_start.ensures.leads.stands)

pub returns-clause-polled : goal.returns-clause-polled
returns-clause-polled g c = rw (← c.self.view_is)
    (polled _ _ _ c.later.new.self.idle (c.requires.nobody_woken, c.requires.init) c.begin.ensures.did c.later.ensures.leads.walked c.later.ensures.leads.stands)
