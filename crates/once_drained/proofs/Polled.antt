-- One poll in a quiet world, of a task that has a reason to be polled while no other rests with the right.
use Rattle.std.proofs.Common.{◌≡◌, ◌≢◌, ◌<◌, ℕ, zero, suc, Bool, true, false, ◌⊎◌, inl, inr, ⊎_elim, List, [], ◌∷◌, ◌++◌, Option, Some, None, refl, sym, ap, ◌∙◌, subst, arith, replicate}
use Rattle.std.proofs.lemmas.Bool.{false≢true, true≢false, cases_eq}
use Rattle.std.proofs.lemmas.List.{append_assoc}
use Rattle.std.specs.Prelude.{not}
use Rattle.std.specs.Option.{is_some}
use Rattle.once_machine.specs.declared.record.Ran.TheVariants.{Pending as RanPending}
use Rattle.once_machine.specs.Record.{Begin, Entry, Kind, is_lazy}
use Rattle.once_machine.specs.declared.record.Ran.{Ran as Answer}
use Rattle.once_machine.specs.Inputs.{Go, Input, Poll}
use Rattle.once_machine.specs.Run.{IsRun}
use Rattle.once_machine.specs.Tasks.{Fresh, Gone, Holding, Status, Unmade, Waiting, is_gone, is_under_way, last_call, status}
use Rattle.once_machine.specs.declared.step.Rest.TheVariants.{Start as RestStart, Wait as RestWait, Run as RestRun}
use Rattle.once_machine.specs.declared.step.Step.{Step}
use Rattle.once_machine.specs.declared.step.Step.TheVariants.{Finished, Resting, UnderWay}
use Rattle.once_machine.specs.declared.task.Task.{Task}
use Rattle.once_machine.specs.Machine.{SharedState, World, in_call, is_finished, is_resting, poll_world, poll_world_by, step_of, step_of_poll, unfinished_after, world_of}
use Rattle.once_machine.proofs.Invariant.Facts.{AtStep}
use Rattle.once_machine.proofs.Invariant.Fits.{Fits, StandsFor, is_alive}
use Rattle.once_machine.proofs.Invariant.Moves.{puts}
use Rattle.once_machine.proofs.Input.Gone.{none_alive}
use Rattle.once_machine.proofs.Input.Headline.{world_fits}
use Rattle.once_drained.specs.Drained.{AreReasoned, HasReason, IsContinued, IsInitPending, IsReasoned}
use Rattle.once_drained.specs.Turn.{IsAlone, IsQuiet}
use Rattle.once_drained.proofs.Own.{InOwnPoll, asked_so, own_begun, own_polls, own_reasons, rested}
use Rattle.once_drained.proofs.Moves.{Moved, steps_moved}
use Rattle.once_drained.proofs.Quiet.{acts_in, alone_holds}

-- reasons of the later entries and of the earlier
reasons_append : (K : Kind) (es fs before : List Entry) → AreReasoned K es (fs ++ before) → AreReasoned K fs before → AreReasoned K (es ++ fs) before
reasons_append K [] fs before r s = s
reasons_append K (e ∷ es) fs before r s =
    (subst (IsReasoned K e) (sym (append_assoc es fs before)) r.0, reasons_append K es fs before r.1 s)

-- a record that is continued twice is continued
pub continued_both : (K : Kind) (x y z : List Entry) → IsContinued K x y → IsContinued K y z → IsContinued K x z
continued_both K x y z c d = record {
  entries = d.entries ++ c.entries;
  record_is = d.record_is ∙ ap (λ h. d.entries ++ h) c.record_is ∙ sym (append_assoc d.entries c.entries x);
  reasoned = reasons_append K d.entries c.entries x (subst (AreReasoned K d.entries) c.record_is d.reasoned) c.reasoned;
}

pub continued_none : (K : Kind) (x : List Entry) → IsContinued K x x
continued_none K x = record { entries = []; record_is = refl; reasoned = tt }

-- steps of one task continue the record
pub moved_continued : (K : Kind) (t : ℕ) (a : Answer) (w w' : World) → Moved K t a w w' → IsContinued K w.history w'.history
moved_continued K t a w w' m = record { entries = m.entries; record_is = m.record_is; reasoned = own_reasons K t a m.entries w.history m.own }

-- the task was not made
abbrev is_unmade : Status → Bool
is_unmade Unmade = true
is_unmade _ = false

module _ (K : Kind) (limit t : ℕ) (c : SharedState) (h : List Entry) where
  not_gone : (s : Status) → s ≡ Gone → (s ≡ Fresh) ⊎ (s ≡ Holding) ⊎ (s ≡ Waiting) → ⊥
  not_gone s e r = ⊎_elim (λ f. false≢true (ap is_gone (sym f ∙ e))) (λ r. ⊎_elim (λ f. false≢true (ap is_gone (sym f ∙ e))) (λ f. false≢true (ap is_gone (sym f ∙ e))) r) r

  not_unmade : (s : Status) → s ≡ Unmade → (s ≡ Fresh) ⊎ (s ≡ Holding) ⊎ (s ≡ Waiting) → ⊥
  not_unmade s e r = ⊎_elim (λ f. false≢true (ap is_unmade (sym f ∙ e))) (λ r. ⊎_elim (λ f. false≢true (ap is_unmade (sym f ∙ e))) (λ f. false≢true (ap is_unmade (sym f ∙ e))) r) r

  -- what such a task is
  reason_status : HasReason K t h → (status K t h ≡ Fresh) ⊎ (status K t h ≡ Holding) ⊎ (status K t h ≡ Waiting)
  reason_status r = ⊎_elim (λ e. inl e) (λ r. inr (⊎_elim (λ e. inl e) (λ e. inr e.0) r)) r

  rests_at : (s : Step ℕ ℕ) → AtStep K limit t c h s → in_call s ≡ false → HasReason K t h → is_resting s ≡ true
  rests_at (Resting r) a q e = refl
  rests_at (UnderWay p) a q e = absurd (false≢true (sym q))
  rests_at Finished a q e = absurd (not_gone (status K t h) a.status_is (reason_status e))

  -- it is there, and rests
  rests_in : (o : Option Task) → StandsFor K limit t c h o → in_call (step_of o) ≡ false → HasReason K t h → (x : Task) × (o ≡ Some x) × (is_resting x.step ≡ true)
  rests_in None a q e = absurd (not_unmade (status K t h) a.0.status_is (reason_status e))
  rests_in (Some x) a q e = (x, refl, rests_at x.step a.step q e)

  -- a task that is gone is finished
  finished_at : (s : Step ℕ ℕ) → AtStep K limit t c h s → in_call s ≡ false → status K t h ≡ Gone → is_finished s ≡ true
  finished_at (Resting RestStart) a q e = absurd (not_gone (status K t h) e (inl a.0.status_is))
  finished_at (Resting (RestWait p k)) a q e = absurd (not_gone (status K t h) e (inr (inr a.0.0.status_is)))
  finished_at (Resting (RestRun by)) a q e = absurd (not_gone (status K t h) e (inr (inl a.0.0.status_is)))
  finished_at (UnderWay p) a q e = absurd (false≢true (sym q))
  finished_at Finished a q e = refl

  finished_in : (o : Option Task) → StandsFor K limit t c h o → in_call (step_of o) ≡ false → status K t h ≡ Gone → is_finished (step_of o) ≡ true
  finished_in None a q e = refl
  finished_in (Some x) a q e = finished_at x.step a.step q e

-- a task that rests is not finished
resting_live : (s : Step ℕ ℕ) → is_resting s ≡ true → is_finished s ≡ false
resting_live (Resting r) e = refl
resting_live (UnderWay p) e = absurd (false≢true e)
resting_live Finished e = absurd (false≢true e)

-- a poll of it begins
begins_call : (s : Step ℕ ℕ) → is_resting s ≡ true → is_finished (step_of_poll s) ≡ false
begins_call (Resting r) e = refl
begins_call (UnderWay p) e = absurd (false≢true e)
begins_call Finished e = absurd (false≢true e)

-- one finished task less
one_less : (s : Step ℕ ℕ) (n : ℕ) → is_finished s ≡ true → 0 < n → unfinished_after s n < n
one_less Finished n e l = omega (arith, l)
one_less (Resting r) n e l = absurd (false≢true e)
one_less (UnderWay p) n e l = absurd (false≢true e)

-- a number is 0 or more
zero_or : (n : ℕ) → (n ≡ 0) ⊎ (0 < n)
zero_or zero = inl refl
zero_or (suc n) = inr (omega arith)

-- what one poll leaves
pub record Polled (K : Kind) (t : ℕ) (a : Answer) (w w' : World) : Type 0 where
  pub continued : IsContinued K w.history w'.history
  pub quiet : IsQuiet w'
  pub unmade : (u : ℕ) → w.tasks u ≡ None → w'.tasks u ≡ None
  pub fewer : is_finished (step_of (w'.tasks t)) ≡ true → w'.unfinished < w.unfinished
  pub pending : is_finished (step_of (w'.tasks t)) ≡ false → IsInitPending K t w'.history × (is_lazy K ≡ false → a ≡ RanPending)

module _ (K : Kind) (limit t k : ℕ) (a : Answer) (inputs : List Input) (some : 0 < limit) (n : ℕ) where
  -- the world before, as the poll begins, and after
  abbrev before : World
  before = world_of K limit inputs

  abbrev begun : World
  begun = world_of K limit (Poll t k ∷ inputs)

  abbrev ended : World
  ended = world_of K limit (replicate n (Go t a true) ++ (Poll t k ∷ inputs))

  moved : Moved K t a begun ended
  moved = steps_moved K t a limit (Poll t k ∷ inputs) n

  fits : Fits K limit before
  fits = world_fits K limit inputs some

  fits_ended : Fits K limit ended
  fits_ended = world_fits K limit (replicate n (Go t a true) ++ (Poll t k ∷ inputs)) some

  module _ (quiet : IsQuiet before) (alone : IsAlone t before) (reason : HasReason K t before.history)
      (x : Task) (found : before.tasks t ≡ Some x) (rests : is_resting x.step ≡ true)
      (over : in_call (step_of (ended.tasks t)) ≡ false) where
    -- the poll begins
    begun_is : begun ≡ poll_world_by true before t k x
    begun_is = ap (λ o. poll_world before t k o) found ∙ ap (λ b. poll_world_by b before t k x) rests

    begun_history : begun.history ≡ Begin t k ∷ before.history
    begun_history = ap (λ w. w.history) begun_is

    begun_unfinished : begun.unfinished ≡ before.unfinished
    begun_unfinished = ap (λ w. w.unfinished) begun_is

    abbrev begun_task : Task
    begun_task = record x { waker = k; step = step_of_poll x.step }

    begun_there : begun.tasks t ≡ Some begun_task
    begun_there = ap (λ w. w.tasks t) begun_is ∙ (puts t begun_task before.tasks).there

    begun_others : (u : ℕ) → t ≢ u → begun.tasks u ≡ before.tasks u
    begun_others u d = ap (λ w. w.tasks u) begun_is ∙ (puts t begun_task before.tasks).others u d

    begun_live : is_finished (step_of (begun.tasks t)) ≡ false
    begun_live = ap (λ o. is_finished (step_of o)) begun_there ∙ begins_call x.step rests

    ended_others : (u : ℕ) → t ≢ u → ended.tasks u ≡ before.tasks u
    ended_others u d = moved.others u d ∙ begun_others u d

    ended_quiet : IsQuiet ended
    ended_quiet u = ⊎_elim
        (λ e. subst (λ v. in_call (step_of (ended.tasks v)) ≡ false) e over)
        (λ d. ap (λ o. in_call (step_of o)) (ended_others u d) ∙ quiet u) (cases_eq t u)

    ended_unmade : (u : ℕ) → before.tasks u ≡ None → ended.tasks u ≡ None
    ended_unmade u e = ⊎_elim
        (λ same. absurd (true≢false (ap is_some (sym found ∙ ap (λ v. before.tasks v) same ∙ e))))
        (λ d. ended_others u d ∙ e) (cases_eq t u)

    -- some task was unfinished
    some_unfinished : 0 < before.unfinished
    some_unfinished = ⊎_elim
        (λ z. absurd (true≢false (sym (ap not (resting_live x.step rests)) ∙ ap is_alive (sym found) ∙ none_alive K limit t before fits z)))
        (λ l. l) (zero_or before.unfinished)

    ended_fewer : is_finished (step_of (ended.tasks t)) ≡ true → ended.unfinished < before.unfinished
    ended_fewer e =
        let counted : ended.unfinished ≡ unfinished_after (step_of (ended.tasks t)) before.unfinished =
        moved.counts begun_live ∙ ap (unfinished_after (step_of (ended.tasks t))) begun_unfinished in
        subst (λ n. n < before.unfinished) (sym counted) (one_less (step_of (ended.tasks t)) before.unfinished e some_unfinished)

    -- the poll, as the record has it
    ended_poll : InOwnPoll K t a ended.history
    ended_poll =
        let whole : ended.history ≡ moved.entries ++ Begin t k ∷ before.history = moved.record_is ∙ ap (λ h. moved.entries ++ h) begun_history in
        subst (InOwnPoll K t a) (sym whole)
        (own_polls K t a limit moved.entries (Begin t k ∷ before.history) moved.own (subst (IsRun K limit) whole fits_ended.run)
        (own_begun K t a k before.history (alone_holds K limit before fits quiet t alone)))

    ended_pending : is_finished (step_of (ended.tasks t)) ≡ false → IsInitPending K t ended.history × (is_lazy K ≡ false → a ≡ RanPending)
    ended_pending e =
        let at = fits_ended.tasks t in
        let idle : is_under_way (status K t ended.history) ≡ false =
        acts_in K limit t ended.shared ended.history (ended.tasks t) at ∙ ended_quiet t in
        ⊎_elim (λ g. absurd (false≢true (sym e ∙ finished_in K limit t ended.shared ended.history
        (ended.tasks t) at (ended_quiet t) g)))
        (λ p. (p, asked_so K a (last_call K t ended.history).ran ended_poll.ran p.1))
        (rested (status K t ended.history) (last_call K t ended.history).ran ended_poll.stands idle)

    begun_continued : IsContinued K before.history begun.history
    begun_continued = record { entries = Begin t k ∷ []; record_is = begun_history; reasoned = (reason, tt) }

    polled_at : Polled K t a before ended
    polled_at = record {
      continued = continued_both K before.history begun.history ended.history begun_continued (moved_continued K t a begun ended moved);
      quiet = ended_quiet;
      unmade = ended_unmade;
      fewer = ended_fewer;
      pending = ended_pending;
    }

  pub polled : in_call (step_of (ended.tasks t)) ≡ false → IsQuiet before → IsAlone t before → HasReason K t before.history → Polled K t a before ended
  polled over quiet alone reason =
      let r = rests_in K limit t before.shared before.history
      (before.tasks t) (fits.tasks t) (quiet t) reason in
      polled_at quiet alone reason r.0 r.1 r.2 over
