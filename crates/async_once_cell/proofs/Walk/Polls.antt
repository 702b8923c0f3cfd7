-- What a whole poll of a task leaves.
use Rattle.std.proofs.Common.{◌≡◌, ℕ, false, List, [], ◌∷◌, ◌++◌, append_assoc, refl, sym, ap, ◌∙◌, subst, arith}
use Rattle.std.specs.Prelude.{Bool, ◌||◌, ⊤}
use Rattle.pagebook.specs.Slot.{Placed}
use Rattle.std.proofs.lemmas.Bool.{false≢true}
use Rattle.std.proofs.lemmas.Grind.{common_steps}
use Rattle.once_machine.specs.Steps.{step_of_poll}
use Rattle.once_machine.specs.declared.step.Ending.TheVariants.{Pending as EndPending}
use Rattle.once_machine.specs.declared.step.Progress.TheVariants.{Ended, More}
use Rattle.once_machine.specs.declared.step.Ending.{Ending}
use Rattle.once_machine.specs.declared.step.Step.TheVariants.{Finished}
use Rattle.once_machine.specs.declared.step.Step.{Step}
use Rattle.once_machine.specs.Record.{Begin, Entry}
use Rattle.async_once_cell.specs.declared.inner.task.Idle.{Idle}
use Rattle.async_once_cell.specs.Inner.Idle.{is_over, step_of}
use Rattle.async_once_cell.specs.Kept.{Grew, entries_of}
use Rattle.async_once_cell.specs.Inner.Own.{Own, Turned}
use Rattle.async_once_cell.specs.Inner.Places.{task_begun}
use Rattle.async_once_cell.specs.Record.{gave_since, gave_value}
use Rattle.async_once_cell.specs.Inner.Sides.{IsReady, Sided, has_given}
use Rattle.async_once_cell.specs.Inner.Tasks.{HasPolled}
use Rattle.async_once_cell.specs.Walks.{IsCall, Spans, Stands, StandsOn, Walked, end_of, handed}
use Rattle.async_once_cell.proofs.Idles.{live, not_in_call, over, rests}
use Rattle.async_once_cell.proofs.Walk.Begins.{grew_from, poll_begins}
use Rattle.async_once_cell.proofs.Walk.Ends.{poll_ended}
use Rattle.once_machine.specs.Machine.{progress_entries}
use Rattle.async_once_cell.proofs.Walk.Logs.{called, gave_on, grew_on}

-- a task that is not finished after a poll was told Pending
told_pending : {W : Type 0} (e : Ending) (i : Idle) → ((e ≡ EndPending → ⊥) → step_of {W = W} i ≡ Finished) → is_over i ≡ false → e ≡ EndPending
told_pending EndPending i ends live = refl
told_pending _ i ends live = absurd (false≢true (sym live ∙ over _ i (ends (λ p. cc))))

-- a poll of a task that is not finished begins where the task rests
pub begins_at : {W : Type 0} {whose : W → ℕ} {x : Sided} {v w : Own} (i : Idle) {s : Step W ⊤}
    → (x.number ≡ v.number) × (x.woke ≡ []) × IsReady x → is_over i ≡ false → StandsOn whose v (step_of i)
    → Turned v (task_begun v.number v.task) (Begin v.number v.number ∷ []) w → step_of_poll (step_of i) ≡ s → Stands whose false x w More s
begins_at {whose = whose} {x = x} {w = w} i (number, none, init) live stands begun at =
    subst (Stands whose false x w More) at (poll_begins (step_of i) number none init (rests _ i live, stands) begun)

-- a poll began, and its end is the newest entry
spans_of : (t : ℕ) (e : Entry) (u v w : List Entry) → Grew (Begin t t ∷ []) u v → Grew (e ∷ []) v w → Spans t e u w
spans_of t e u v w began ended = record {
  before = began.0;
  since = ended.1.0;
  after = began.1;
  is = ended.2 ∙ ap (λ l. l ++ e ∷ []) (sym ended.1.1 ∙ ap (λ l. l ++ ended.1.0) began.2)
      ∙ append_assoc (began.0 ++ Begin t t ∷ []) ended.1.0 (e ∷ []) ∙ append_assoc began.0 (Begin t t ∷ []) (ended.1.0 ++ e ∷ []);
}

-- the end of a call says nothing of what an init gave
end_is_calm : (gave : Bool) (t : ℕ) (e : Ending) → gave_since gave (end_of t e ∷ []) ≡ gave
end_is_calm gave t e = grind (arith, common_steps)

-- in a poll, what the record says of that is what the entries of the poll say
gave_in_call : {t : ℕ} (e : Ending) {mid u w : List Entry} → IsCall t (Begin t t) (end_of t e) mid u w → gave_value t w ≡ gave_since false mid
gave_in_call {t = t} e {mid = mid} {u = u} call =
    ap (gave_since false) call.own ∙ gave_on false (entries_of t u) (Begin t t ∷ (mid ++ end_of t e ∷ []))
    ∙ gave_on false mid (end_of t e ∷ []) ∙ end_is_calm (gave_since false mid) t e

-- a value is shown exactly if the init gave one in the poll, if none is left
shown_there : (x y : Sided) (mid : List Entry) → IsReady x → has_given y ≡ gave_since (has_given x) mid → y.has_value ≡ false
    → y.has_shown ≡ gave_since false mid
shown_there x y mid ready made none =
    let before : has_given x ≡ false = ap (λ b. b || x.has_shown) ready.1 ∙ ready.2 in
    sym (ap (λ b. b || y.has_shown) none) ∙ made ∙ ap (λ g. gave_since g mid) before

-- it began, and its steps were made: so it ended
pub polled : {W : Type 0} {whose : W → ℕ} {x y : Sided} {u v w : Own} {e : Ending} (c d : Placed) (before : Bool) (i : Idle) → (x.woke ≡ []) × IsReady x
    → Turned u (task_begun u.number u.task) (Begin u.number u.number ∷ []) v → Walked x v (Ended e) y w → Stands whose false y w (Ended e) (step_of i)
    → HasPolled y e (record { cell = c; number = u.number; log = u.log; finished = before }) (record { cell = d; number = w.number; log = w.log; finished = is_over i })
polled {x = x} {y = y} {u = u} {v = v} {w = w} {e = e} c d before i (none, ready) begun walked stands =
    let seen = grew_on _ _ _ begun.log in
    let ended = poll_ended refl (step_of i) walked stands (not_in_call _ i) in
    let call : IsCall w.number (Begin w.number w.number) (end_of w.number e) walked.made.0 u.log w.log =
    called (Ended e) w.task.kept v.log (ap (λ (l : Entry). l ∷ []) ended.entry)
    (subst (λ (t : ℕ). entries_of t v.log ≡ entries_of t u.log ++ Begin t t ∷ []) (sym begun.number ∙ sym walked.number) begun.mine)
    walked.made.1
    (subst (λ (t : ℕ). entries_of t w.log ≡ entries_of t v.log ++ (walked.made.0 ++ progress_entries (Ended e) w.number 0 w.task.kept)) (sym walked.number) walked.made.2) in
    record {
      number = walked.number ∙ begun.number;
      end = grew_from _ _ _ _ seen ended.end;
      spans = spans_of w.number (end_of w.number e) u.log v.log w.log
          (subst (λ (t : ℕ). Grew (Begin t t ∷ []) u.log v.log) (sym (walked.number ∙ begun.number)) begun.log) ended.end;
      call = (
        walked.made.0,
        call,
        walked.made.3 ∙ ap (λ X. X ++ handed walked.made.0) none,
      );
      error = ended.error;
      init = ended.init;
      shown = λ value. shown_there x y walked.made.0 ready walked.made.4 (ended.none value) ∙ sym (gave_in_call e call);
      finished = (λ p. live _ i (ended.pending p).0, told_pending e i ended.finished);
      not_dropped = ended.poll;
    }
