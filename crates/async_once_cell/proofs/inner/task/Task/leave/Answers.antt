-- The drop begins, its steps are made, and so it ends. A task that was never polled has none to make.
use Rattle.std.specs.Prelude.{⊤}
use Rattle.std.proofs.Common.{◌≡◌, ℕ, true, false, refl, sym, ap, ◌∙◌, ◌∷◌, [], ◌++◌, subst}
use Rattle.once_machine.specs.Steps.{in_call, is_resting}
use Rattle.once_machine.specs.declared.step.Progress.TheVariants.{Ended}
use Rattle.once_machine.specs.declared.step.Step.{Step}
use Rattle.async_once_cell.specs.Inner.Own.{Own}
use Rattle.async_once_cell.specs.declared.inner.task.Idle.{Idle}
use Rattle.async_once_cell.specs.Inner.Idle.{is_over, step_of}
use Rattle.once_machine.specs.Record.{DropBegin, DropEnd, Entry}
use Rattle.async_once_cell.specs.Kept.{Grew, entries_of}
use Rattle.async_once_cell.specs.Inner.Shares.{own}
use Rattle.async_once_cell.specs.Inner.Sides.{Sided}
use Rattle.async_once_cell.specs.Walks.{IsCall, Rests, StandsOn, handed}
use Rattle.async_once_cell.specs.Inner.Tasks.{TaskView}
use Rattle.async_once_cell.proofs.Walk.Logs.{called, grew_on, walked_none}
use Rattle.once_machine.specs.Machine.{progress_entries}
use Rattle.async_once_cell.proofs.Walk.Begins.{drop_alone, drop_opens, grew_from, grew_last, stands_closed}
use Rattle.async_once_cell.proofs.Promise.{fits_on}
use Rattle.async_once_cell.proofs.Walk.Ends.{drop_ended}
use Rattle.async_once_cell.proofs.inner.task.Task.leave.Goals as goal

-- a task that is not finished rests where its call begins
rests_at : {W : Type 0} (whose : W → ℕ) (v : Own) (i : Idle) {s : Step W ⊤} → is_over i ≡ false
    → (is_over i ≡ false → is_resting s ≡ true) → s ≡ step_of i → (is_over i ≡ false → StandsOn whose v (step_of i)) → Rests whose v s
rests_at whose v i live rests is stands = (rests live, subst (StandsOn whose v) (sym is) (stands live))

pub go_on-requires : goal.go_on-requires
go_on-requires g c =
    let number = c.requires.number ∙ sym (ap (λ (t : TaskView). t.number) c.self.view_is) in
    let live = ap (λ (t : TaskView). t.finished) c.self.view_is ∙ c.requires.live in
    let rests = rests_at g.W.TaskWaker.whose (own c.self.inside.parts) c.self.inside.parts.idle live c.step-step.ensures.rests c.step-step.ensures.is c.self.inside.stands in
    let call = sym c.begin_drop-2.ensures.more ∙ c.if-not-begin_drop.false in
    record {
      stands = (
        true,
        stands_closed (g.S.TaskSide.state c.args.side.now) c.step-step.result (g.met.S.TaskSide.tells.close _ _ c.begin_drop-2.ensures.close) c.begin_drop-2.ensures.step
            (number, c.requires.nobody_woken) rests c.begin_drop.ensures.did call,
      );
      fits = fits_on g.V.Fits.fits g.met.S.TaskSide.hands_on g.met.S.TaskSide.slot_on c.requires.fits c.begin_drop-2.ensures.stays
          (c.begin_drop.ensures.cell ∙ ap (λ (t : TaskView). t.cell) c.self.view_is);
    }

pub returns-then-not-begin_drop-clause-end : goal.returns-then-not-begin_drop-clause-end
returns-then-not-begin_drop-clause-end g c =
    let live = ap (λ (t : TaskView). t.finished) c.self.view_is ∙ c.requires.live in
    let rests = rests_at g.W.TaskWaker.whose (own c.self.inside.parts) c.self.inside.parts.idle live c.step-step.ensures.rests c.step-step.ensures.is c.self.inside.stands in
    let over = ap in_call (sym c.begin_drop-2.ensures.step) ∙ sym c.begin_drop-2.ensures.more ∙ c.if-not-begin_drop.true in
    let grew = (drop_alone g.W.TaskWaker.whose (own c.self.inside.parts) (own c.begin_drop.new.self) c.step-step.result rests over c.begin_drop.ensures.did).0 in
    rw (← c.self.view_is)
    (subst (λ (t : ℕ). Grew (DropEnd t ∷ []) (own c.self.inside.parts).log (own c.begin_drop.new.self).log) (sym c.begin_drop.ensures.did.number)
    (grew_last (DropEnd (own c.self.inside.parts).number) (DropBegin (own c.self.inside.parts).number ∷ []) _ _ grew))

pub returns-then-not-begin_drop-clause-call : goal.returns-then-not-begin_drop-clause-call
returns-then-not-begin_drop-clause-call g c =
    let live = ap (λ (t : TaskView). t.finished) c.self.view_is ∙ c.requires.live in
    let rests = rests_at g.W.TaskWaker.whose (own c.self.inside.parts) c.self.inside.parts.idle live c.step-step.ensures.rests c.step-step.ensures.is c.self.inside.stands in
    let over = ap in_call (sym c.begin_drop-2.ensures.step) ∙ sym c.begin_drop-2.ensures.more ∙ c.if-not-begin_drop.true in
    let call = (drop_alone g.W.TaskWaker.whose (own c.self.inside.parts) (own c.begin_drop.new.self) c.step-step.result rests over c.begin_drop.ensures.did).1 in
    rw (← c.self.view_is) (
      [],
      subst (λ (t : ℕ). IsCall t (DropBegin t) (DropEnd t) [] (own c.self.inside.parts).log (own c.begin_drop.new.self).log) (sym c.begin_drop.ensures.did.number) call,
      ap (λ (x : Sided). x.woke) (g.met.S.TaskSide.tells.close _ _ c.begin_drop-2.ensures.close) ∙ c.requires.nobody_woken,
    )

pub returns : goal.returns
returns g c =
    let number = c.requires.number ∙ sym (ap (λ (t : TaskView). t.number) c.self.view_is) in
    let live = ap (λ (t : TaskView). t.finished) c.self.view_is ∙ c.requires.live in
    let rests = rests_at g.W.TaskWaker.whose (own c.self.inside.parts) c.self.inside.parts.idle live c.step-step.ensures.rests c.step-step.ensures.is c.self.inside.stands in
    let call = sym c.begin_drop-2.ensures.more ∙ c.if-not-begin_drop.false in
    let closed = g.met.S.TaskSide.tells.close _ _ c.begin_drop-2.ensures.close in
    let seen = grew_on _ _ _ c.begin_drop.ensures.did.log in
    let walked = c.go_on.ensures.walked _ _ (walked_none _ _) in
    let last : Own = own c.go_on.new.self in
    let opens = drop_opens g.W.TaskWaker.whose (own c.self.inside.parts) (own c.begin_drop.new.self) c.step-step.result rests (ap in_call (sym c.begin_drop-2.ensures.step) ∙ call)
    c.begin_drop.ensures.did in
    let stands = c.go_on.ensures.stands true
    (stands_closed (g.S.TaskSide.state c.args.side.now) c.step-step.result closed c.begin_drop-2.ensures.step (number, c.requires.nobody_woken) rests c.begin_drop.ensures.did call) in
    let end = drop_ended refl c.go_on.new.step walked stands c.go_on.ensures.over in
    rw (← c.self.view_is) (record {
      cell = c.go_on.ensures.cell ∙ c.begin_drop.ensures.cell;
      number = walked.number ∙ c.begin_drop.ensures.did.number;
      end = grew_from _ _ _ _ seen end.0;
      call = (
        walked.made.0,
        called (Ended c.go_on.result) last.task.kept (own c.begin_drop.new.self).log (ap (λ (l : Entry). l ∷ []) end.1)
            (subst (λ (t : ℕ). entries_of t (own c.begin_drop.new.self).log ≡ entries_of t (own c.self.inside.parts).log ++ DropBegin t ∷ [])
            (sym c.begin_drop.ensures.did.number ∙ sym walked.number) opens)
            walked.made.1
            (subst (λ (t : ℕ). entries_of t last.log ≡ entries_of t (own c.begin_drop.new.self).log ++ (walked.made.0 ++ progress_entries (Ended c.go_on.result) last.number 0 last.task.kept))
            (sym walked.number) walked.made.2),
        walked.made.3 ∙ ap (λ X. X ++ handed walked.made.0) (ap (λ (x : Sided). x.woke) closed ∙ c.requires.nobody_woken),
      );
      finished = refl;
      stays = g.met.S.Side.stays_on _ _ _ c.begin_drop-2.ensures.stays c.go_on.ensures.stays;
    })
