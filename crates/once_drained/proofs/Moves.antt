-- What the steps of one task change. Sixteen end its call.
use Rattle.std.proofs.Common.{◌≡◌, ◌≢◌, ◌≤◌, ◌<◌, ◌+◌, ℕ, zero, suc, Bool, true, false, List, [], ◌++◌, Option, Some, None, refl, sym, ap, ◌∙◌, subst, arith, replicate, ⊎_elim}
use Rattle.std.proofs.lemmas.Bool.{false≢true, cases_Bool}
use Rattle.std.proofs.lemmas.List.{append_assoc}
use Rattle.std.specs.Option.{is_some}
use Rattle.once_machine.specs.Record.{Entry, Kind, is_lazy}
use Rattle.once_machine.specs.declared.record.Ran.{Ran as Answer}
use Rattle.once_machine.specs.Inputs.{Go, Input}
use Rattle.once_machine.specs.declared.step.Step.{Step}
use Rattle.once_machine.specs.declared.step.Step.TheVariants.{Finished, Resting, UnderWay}
use Rattle.once_machine.specs.declared.task.Task.{Task}
use Rattle.once_machine.specs.Machine.{Outcome, World, advance, go_world, go_world_by, in_call, is_finished, left_of, step_of, unfinished_after, world_of}
use Rattle.once_machine.proofs.Invariant.Fits.{Fits}
use Rattle.once_machine.proofs.Invariant.Moves.{puts}
use Rattle.once_machine.proofs.Input.Headline.{task_fits, world_fits}
use Rattle.once_machine.proofs.Shared.Adds.{step_part}
use Rattle.once_script.proofs.Part.Left.{left_most, left_some}
use Rattle.once_script.proofs.Part.Tells.{StepTells, tells}
use Rattle.once_drained.proofs.Own.{AreOwn, own_append, step_own}

-- what steps of t leave of the world
pub record Moved (K : Kind) (t : ℕ) (a : Answer) (w w' : World) : Type 0 where
  pub entries : List Entry
  pub record_is : w'.history ≡ entries ++ w.history
  pub own : AreOwn K t a entries
  pub others : (u : ℕ) → t ≢ u → w'.tasks u ≡ w.tasks u
  pub unmade : w.tasks t ≡ None → w'.tasks t ≡ None
  pub over : is_finished (step_of (w.tasks t)) ≡ true → w' ≡ w
  pub counts : is_finished (step_of (w.tasks t)) ≡ false → w'.unfinished ≡ unfinished_after (step_of (w'.tasks t)) w.unfinished

-- a task that is not finished counts as before
live_counts : (s : Step ℕ ℕ) (n : ℕ) → is_finished s ≡ false → n ≡ unfinished_after s n
live_counts (Resting r) n e = refl
live_counts (UnderWay p) n e = refl
live_counts Finished n e = absurd (false≢true (sym e))

calling_live : (s : Step ℕ ℕ) → in_call s ≡ true → is_finished s ≡ true → ⊥
calling_live (UnderWay p) c e = false≢true e
calling_live (Resting r) c e = false≢true c
calling_live Finished c e = false≢true c

module _ (K : Kind) (t : ℕ) (a : Answer) where
  -- nothing changed
  moved_none : (w : World) → Moved K t a w w
  moved_none w = record {
    entries = [];
    record_is = refl;
    own = tt;
    others = λ u d. refl;
    unmade = λ e. e;
    over = λ e. refl;
    counts = live_counts (step_of (w.tasks t)) w.unfinished;
  }

  -- one change after the other, by whether the task was finished by the first
  counts_by : (x y z : World) (b : Bool) → is_finished (step_of (y.tasks t)) ≡ b → Moved K t a x y → Moved K t a y z
      → is_finished (step_of (x.tasks t)) ≡ false → z.unfinished ≡ unfinished_after (step_of (z.tasks t)) x.unfinished
  counts_by x y z true is m n e =
      let same : z ≡ y = n.over is in
      subst (λ v. v.unfinished ≡ unfinished_after (step_of (v.tasks t)) x.unfinished) (sym same) (m.counts e)
  counts_by x y z false is m n e =
      let same : y.unfinished ≡ x.unfinished = m.counts e ∙ sym (live_counts (step_of (y.tasks t)) x.unfinished is) in
      n.counts is ∙ ap (unfinished_after (step_of (z.tasks t))) same

  moved_both : (x y z : World) → Moved K t a x y → Moved K t a y z → Moved K t a x z
  moved_both x y z m n = record {
    entries = n.entries ++ m.entries;
    record_is = n.record_is ∙ ap (λ h. n.entries ++ h) m.record_is ∙ sym (append_assoc n.entries m.entries x.history);
    own = own_append K t a n.entries m.entries n.own m.own;
    others = λ u d. n.others u d ∙ m.others u d;
    unmade = λ e. n.unmade (m.unmade e);
    over = λ e. n.over (ap (λ v. is_finished (step_of (v.tasks t))) (m.over e) ∙ e) ∙ m.over e;
    counts = counts_by x y z (is_finished (step_of (y.tasks t))) refl m n;
  }

  module _ (limit : ℕ) where
    -- one step, by whether a call is under way
    stepped_by : (w : World) (x : Task) → w.tasks t ≡ Some x → (r : Bool) → in_call x.step ≡ r → Moved K t a w (go_world_by r (is_lazy K) limit w t a true x)
    stepped_by w x found false c = moved_none w
    stepped_by w x found true c =
        let o : Outcome = advance (is_lazy K) limit w.shared t x a true in
        let y : Task = record x { step = o.step; kept = o.kept } in
        let p = puts t y w.tasks in
        record {
          entries = o.entries;
          record_is = refl;
          own = step_own K t a o.entries (step_part K w.shared t x.kept a
              limit x.waker true x.step);
          others = p.others;
          unmade = λ e. absurd (false≢true (ap is_some (sym e ∙ found)));
          over = λ e. absurd (calling_live x.step c (ap (λ v. is_finished (step_of v)) (sym found) ∙ e));
          counts = λ e. ap (λ v. unfinished_after (step_of v) w.unfinished) (sym p.there);
        }

    stepped : (w : World) (o : Option Task) → w.tasks t ≡ o → Moved K t a w (go_world (is_lazy K) limit w t a true o)
    stepped w None found = moved_none w
    stepped w (Some x) found = stepped_by w x found (in_call x.step) refl

    -- the world after n steps
    abbrev pub after_steps : List Input → ℕ → World
    after_steps inputs n = world_of K limit (replicate n (Go t a true) ++ inputs)

    pub steps_moved : (inputs : List Input) (n : ℕ) → Moved K t a (world_of K limit inputs) (after_steps inputs n)
    steps_moved inputs zero = moved_none (world_of K limit inputs)
    steps_moved inputs (suc n) =
        let w : World = after_steps inputs n in
        moved_both (world_of K limit inputs) w (after_steps inputs (suc n)) (steps_moved inputs n) (stepped w (w.tasks t) refl)

    -- what is left of a call after one more step
    left_by : (w : World) (n : ℕ) (x : Task) → Fits K limit w → w.tasks t ≡ Some x → (r : Bool) → in_call x.step ≡ r
        → (in_call (step_of (w.tasks t)) ≡ true → left_of (step_of (w.tasks t)) + n ≤ 16)
        → in_call (step_of ((go_world_by r (is_lazy K) limit w t a true x).tasks t)) ≡ true
        → left_of (step_of ((go_world_by r (is_lazy K) limit w t a true x).tasks t)) + suc n ≤ 16
    left_by w n x f found false c before e = absurd (false≢true (sym c ∙ ap (λ v. in_call (step_of v)) (sym found) ∙ e))
    left_by w n x f found true c before e =
        let o : Outcome = advance (is_lazy K) limit w.shared t x a true in
        let y : Task = record x { step = o.step; kept = o.kept } in
        let there = ap step_of (puts t y w.tasks).there in
        let l : StepTells true x.step o = tells K w.shared t x.kept w.history limit
        x.waker a true x.step (task_fits K limit t w x f found).step c in
        let was = ap step_of found in
        let less = l.lowers (ap in_call (sym there) ∙ e) in
        let so = before (ap in_call was ∙ c) in
        let so' : left_of x.step + n ≤ 16 = subst (λ s. left_of s + n ≤ 16) was so in
        subst (λ s. left_of s + suc n ≤ 16) (sym there) (omega (arith, less, so'))

    left_more : (w : World) (n : ℕ) (o : Option Task) → Fits K limit w → w.tasks t ≡ o
        → (in_call (step_of (w.tasks t)) ≡ true → left_of (step_of (w.tasks t)) + n ≤ 16)
        → in_call (step_of ((go_world (is_lazy K) limit w t a true o).tasks t)) ≡ true
        → left_of (step_of ((go_world (is_lazy K) limit w t a true o).tasks t)) + suc n ≤ 16
    left_more w n None f found before e = absurd (false≢true (ap (λ v. in_call (step_of v)) (sym found) ∙ e))
    left_more w n (Some x) f found before e = left_by w n x f found (in_call x.step)
        refl before e

    steps_left : (inputs : List Input) (n : ℕ) → 0 < limit → in_call (step_of ((after_steps inputs n).tasks t)) ≡ true
        → left_of (step_of ((after_steps inputs n).tasks t)) + n ≤ 16
    steps_left inputs zero some e = let most = left_most (step_of ((after_steps inputs zero).tasks t)) in omega (arith, most)
    steps_left inputs (suc n) some e =
        let w : World = after_steps inputs n in
        left_more w n (w.tasks t) (world_fits K limit (replicate n (Go t a true) ++ inputs) some) refl (steps_left inputs n some) e

    -- sixteen steps end the call
    pub steps_end : (inputs : List Input) → 0 < limit → in_call (step_of ((after_steps inputs 16).tasks t)) ≡ false
    steps_end inputs some = ⊎_elim
        (λ e. let left = steps_left inputs 16 some e in let least = left_some (step_of ((after_steps inputs 16).tasks t)) e in absurd (omega (arith, left, least)))
        (λ e. e) (cases_Bool (in_call (step_of ((after_steps inputs 16).tasks t))))
