-- A world in which no call is under way. If nobody may be polled there, every task is gone.
use Rattle.std.proofs.Common.{◌≡◌, ℕ, Bool, true, false, inl, inr, ⊎_elim, List, Option, Some, None, refl, sym, ap, ◌∙◌, subst}
use Rattle.std.proofs.lemmas.Bool.{false≢true, cases_Bool, false_from_ne_true}
use Rattle.std.specs.Option.{is_some, option_map}
use Rattle.once_machine.specs.Numbers.{member}
use Rattle.once_machine.specs.Record.{Entry, Kind, made_in}
use Rattle.once_machine.specs.Cell.{cell}
use Rattle.once_machine.specs.Tasks.{Holding, Status, Waiting, all_gone, is_gone, is_under_way, status}
use Rattle.once_machine.specs.Crowd.{is_waiting}
use Rattle.once_machine.specs.Refusals.{OtherHolds}
use Rattle.once_machine.specs.Called.{CanGoOn, SomebodyCalled}
use Rattle.once_machine.specs.declared.step.Rest.TheVariants.{Start as RestStart, Wait as RestWait, Run as RestRun}
use Rattle.once_machine.specs.declared.step.Step.{Step}
use Rattle.once_machine.specs.declared.step.Step.TheVariants.{Finished, Resting, UnderWay}
use Rattle.once_machine.specs.declared.task.Task.{Task}
use Rattle.once_machine.specs.Machine.{SharedState, World, in_call, step_of}
use Rattle.once_machine.proofs.History.Cells.{no_other}
use Rattle.once_machine.proofs.History.Others.{holds}
use Rattle.once_machine.proofs.Listing.Members.{eqb_self}
use Rattle.once_machine.proofs.Invariant.Facts.{AtStep}
use Rattle.once_machine.proofs.Invariant.Fits.{Fits, StandsFor}
use Rattle.once_machine.proofs.Input.Gone.{gone_list}
use Rattle.once_machine.proofs.Input.Headline.{world_fits}
use Rattle.once_machine.proofs.Law.GoesOn.{at_the_newest, goes_on}
use Rattle.once_script.proofs.Part.Beginnings.{step_acts}
use Rattle.once_script.specs.declared.world.play.World.{World as CodeWorld}
use Rattle.once_script.specs.WorldShown.{world_in}
use Rattle.once_drained.specs.Drained.{HasReason, IsWorldOf, record_of}
use Rattle.once_drained.specs.Turn.{HasAll, IsAlone, IsQuiet, is_awake, is_woken, rests_holding}

-- what holds after any inputs holds of a world to which they led
pub fits_of : (K : Kind) (limit : ℕ) (w : CodeWorld) → IsWorldOf K limit w → Fits K limit (world_in w)
fits_of K limit w x = subst (Fits K limit) (sym x.1.world) (world_fits K limit x.0 x.1.some)

-- the task rests with the right
abbrev is_holding : Status → Bool
is_holding Holding = true
is_holding _ = false

module _ (K : Kind) (limit t : ℕ) (c : SharedState) (h : List Entry) where
  -- a holder that is in no call rests with the right
  holder_at : (s : Step ℕ ℕ) → AtStep K limit t c h s → in_call s ≡ false → holds t (cell K h) ≡ true → rests_holding s ≡ true
  holder_at (Resting RestStart) a q e = absurd (false≢true (sym a.0.holds_is ∙ e))
  holder_at (Resting (RestWait p k)) a q e = absurd (false≢true (sym a.0.0.holds_is ∙ e))
  holder_at (Resting (RestRun by)) a q e = refl
  holder_at (UnderWay p) a q e = absurd (false≢true (sym q))
  holder_at Finished a q e = absurd (false≢true (sym a.holds_is ∙ e))

  pub holder_in : (o : Option Task) → StandsFor K limit t c h o → in_call (step_of o) ≡ false → holds t (cell K h) ≡ true → rests_holding (step_of o) ≡ true
  holder_in None a q e = absurd (false≢true (sym a.0.holds_is ∙ e))
  holder_in (Some x) a q e = holder_at x.step a.step q e

  -- one that rests with the right holds
  holds_at : (s : Step ℕ ℕ) → AtStep K limit t c h s → rests_holding s ≡ true → (status K t h ≡ Holding) × (holds t (cell K h) ≡ true)
  holds_at (Resting (RestRun by)) a e = (a.0.0.status_is, a.0.0.holds_is)
  holds_at (Resting RestStart) a e = absurd (false≢true e)
  holds_at (Resting (RestWait p k)) a e = absurd (false≢true e)
  holds_at (UnderWay p) a e = absurd (false≢true e)
  holds_at Finished a e = absurd (false≢true e)

  pub holds_in : (o : Option Task) → StandsFor K limit t c h o → rests_holding (step_of o) ≡ true → (status K t h ≡ Holding) × (holds t (cell K h) ≡ true)
  holds_in None a e = absurd (false≢true e)
  holds_in (Some x) a e = holds_at x.step a.step e

  -- one that is awake has a reason to be polled
  awake_at : (s : Step ℕ ℕ) → AtStep K limit t c h s → is_awake s (is_woken K t h) ≡ true → HasReason K t h
  awake_at (Resting RestStart) a e = inl a.0.status_is
  awake_at (Resting (RestWait p k)) a e = inr (inr (a.0.0.status_is, e))
  awake_at (Resting (RestRun by)) a e = absurd (false≢true e)
  awake_at (UnderWay p) a e = absurd (false≢true e)
  awake_at Finished a e = absurd (false≢true e)

  pub awake_in : (o : Option Task) → StandsFor K limit t c h o → is_awake (step_of o) (is_woken K t h) ≡ true → HasReason K t h
  awake_in None a e = absurd (false≢true e)
  awake_in (Some x) a e = awake_at x.step a.step e

  -- a call is under way exactly if the record says so
  pub acts_in : (o : Option Task) → StandsFor K limit t c h o → is_under_way (status K t h) ≡ in_call (step_of o)
  acts_in None a = ap is_under_way a.0.status_is
  acts_in (Some x) a = step_acts K limit t c h x.step a.step

  -- one that waits is awake if it was woken
  waiter_at : (s : Step ℕ ℕ) (b : Bool) → AtStep K limit t c h s → in_call s ≡ false → status K t h ≡ Waiting → is_awake s b ≡ b
  waiter_at (Resting RestStart) b a q e = absurd (false≢true (ap is_waiting (sym a.0.status_is ∙ e)))
  waiter_at (Resting (RestWait p k)) b a q e = refl
  waiter_at (Resting (RestRun by)) b a q e = absurd (false≢true (ap is_waiting (sym a.0.0.status_is ∙ e)))
  waiter_at (UnderWay p) b a q e = absurd (false≢true (sym q))
  waiter_at Finished b a q e = absurd (false≢true (ap is_waiting (sym a.status_is ∙ e)))

  waiter_in : (o : Option Task) (b : Bool) → StandsFor K limit t c h o → in_call (step_of o) ≡ false → status K t h ≡ Waiting → is_awake (step_of o) b ≡ b
  waiter_in None b a q e = absurd (false≢true (ap is_waiting (sym a.0.status_is ∙ e)))
  waiter_in (Some x) b a q e = waiter_at x.step b a.step q e

  -- one that rests with the right by the record does so
  resting_at : (s : Step ℕ ℕ) → AtStep K limit t c h s → in_call s ≡ false → status K t h ≡ Holding → rests_holding s ≡ true
  resting_at (Resting RestStart) a q e = absurd (false≢true (ap is_holding (sym a.0.status_is ∙ e)))
  resting_at (Resting (RestWait p k)) a q e = absurd (false≢true (ap is_holding (sym a.0.0.status_is ∙ e)))
  resting_at (Resting (RestRun by)) a q e = refl
  resting_at (UnderWay p) a q e = absurd (false≢true (sym q))
  resting_at Finished a q e = absurd (false≢true (ap is_holding (sym a.status_is ∙ e)))

  resting_in : (o : Option Task) → StandsFor K limit t c h o → in_call (step_of o) ≡ false → status K t h ≡ Holding → rests_holding (step_of o) ≡ true
  resting_in None a q e = absurd (false≢true (ap is_holding (sym a.0.status_is ∙ e)))
  resting_in (Some x) a q e = resting_at x.step a.step q e

  -- one that neither rests with the right, nor is awake, nor waits, is gone
  gone_at : (s : Step ℕ ℕ) → AtStep K limit t c h s → in_call s ≡ false → rests_holding s ≡ false → is_awake s (is_woken K t h) ≡ false
      → (status K t h ≡ Waiting → ⊥) → is_gone (status K t h) ≡ true
  gone_at (Resting RestStart) a q r e n = absurd (false≢true (sym e))
  gone_at (Resting (RestWait p k)) a q r e n = absurd (n a.0.0.status_is)
  gone_at (Resting (RestRun by)) a q r e n = absurd (false≢true (sym r))
  gone_at (UnderWay p) a q r e n = absurd (false≢true (sym q))
  gone_at Finished a q r e n = ap is_gone a.status_is

module _ (K : Kind) (limit : ℕ) (w : World) (f : Fits K limit w) where
  -- if one task rests with the right, no other does
  pub rests_alone : (t : ℕ) → rests_holding (step_of (w.tasks t)) ≡ true → IsAlone t w
  rests_alone t e u d = false_from_ne_true (rests_holding (step_of (w.tasks u))) (λ r.
      let one = (holds_in K limit t w.shared w.history (w.tasks t) (f.tasks t) e).1 in
      let two = (holds_in K limit u w.shared w.history (w.tasks u) (f.tasks u) r).1 in
      false≢true (sym (no_other t u (cell K w.history) one d) ∙ two))

  module _ (quiet : IsQuiet w) where
    -- while no other task rests with the right, no other holds
    pub alone_holds : (t : ℕ) → IsAlone t w → OtherHolds K t w.history → ⊥
    alone_holds t alone o =
        let u = o.0 in
        let held : holds u (cell K w.history) ≡ true = ap (holds u) o.2 ∙ eqb_self u in
        false≢true (sym (alone u o.1) ∙ holder_in K limit u w.shared w.history
        (w.tasks u) (f.tasks u) (quiet u) held)

    module _ (none_rests : (u : ℕ) → rests_holding (step_of (w.tasks u)) ≡ false)
        (none_awake : (u : ℕ) → is_awake (step_of (w.tasks u)) (is_woken K u w.history) ≡ false) where
      -- then nobody can go on
      none_goes_on : (t : ℕ) → CanGoOn K t w.history → ⊥
      none_goes_on t g = ⊎_elim
          (λ e. false≢true (sym (quiet t) ∙ sym (acts_in K limit t w.shared w.history (w.tasks t) (f.tasks t)) ∙ e))
          (λ g. ⊎_elim (λ e. false≢true (sym (none_rests t) ∙ resting_in K limit t w.shared w.history
          (w.tasks t) (f.tasks t) (quiet t) e))
          (λ e. false≢true (sym (none_awake t) ∙ waiter_in K limit t w.shared w.history
          (w.tasks t) (is_woken K t w.history) (f.tasks t) (quiet t) e.0 ∙ e.1)) g) g

      -- so nobody waits
      none_waits : (t : ℕ) → status K t w.history ≡ Waiting → ⊥
      none_waits t s =
          let g = goes_on K limit t w.history f.run (at_the_newest (SomebodyCalled K) w.history f.moments) s in
          none_goes_on g.0 g.1

      gone_in : (t : ℕ) (o : Option Task) → w.tasks t ≡ o → member t (made_in w.history) ≡ true → is_gone (status K t w.history) ≡ true
      gone_in t None is m = absurd (false≢true (sym (f.made_only t is) ∙ m))
      gone_in t (Some x) is m =
          let at = subst (StandsFor K limit t w.shared w.history) is (f.tasks t) in
          gone_at K limit t w.shared w.history x.step at.step (ap (λ o. in_call (step_of o)) (sym is) ∙ quiet t)
          (ap (λ o. rests_holding (step_of o)) (sym is) ∙ none_rests t)
          (ap (λ o. is_awake (step_of o) (is_woken K t w.history)) (sym is) ∙ none_awake t) (none_waits t)

      -- and every task is gone
      pub none_left : all_gone K w.history ≡ true
      none_left = gone_list K (made_in w.history) w.history (λ t m. gone_in t (w.tasks t) refl m)

-- what holds of each task of the list, and of one that is not there, holds of every task
pub each_task : (tasks : List ℕ) (w : World) (P : Option Task → ℕ → Type 0) → HasAll tasks w → ((u : ℕ) → P None u)
    → ((u : ℕ) → member u tasks ≡ true → P (w.tasks u) u) → (u : ℕ) → P (w.tasks u) u
each_task tasks w P all none each u =
    ⊎_elim (λ m. each u m) (λ m. subst (λ o. P o u) (sym (all u m)) (none u)) (cases_Bool (member u tasks))

-- what two options have that are the same
some_same : (s r : Step ℕ ℕ) → ◌≡◌ {A = Option (Step ℕ ℕ)} (Some s) (Some r) → r ≡ s
some_same s r e = cc

-- the step that was found
pub step_found : (o : Option Task) (s : Step ℕ ℕ) → Some s ≡ option_map (λ x. x.step) o → step_of o ≡ s
step_found None s e = absurd (false≢true (sym (ap is_some e)))
step_found (Some x) s e = some_same s x.step e

pub step_missed : (o : Option Task) → None ≡ option_map (λ x. x.step) o → step_of o ≡ Finished
step_missed None e = refl
step_missed (Some x) e = absurd (false≢true (ap is_some e))

-- no call is under way by the record either
pub idle_so : (K : Kind) (limit : ℕ) (w : CodeWorld) → IsWorldOf K limit w → IsQuiet (world_in w) → (u : ℕ) → is_under_way (status K u (record_of w)) ≡ false
idle_so K limit w x quiet u =
    let v = world_in w in
    acts_in K limit u v.shared v.history (v.tasks u) ((fits_of K limit w x).tasks u) ∙ quiet u
