-- A queue stands at the door while a task waits, and none is kept there once the set cell is left alone.
use Rattle.std.proofs.Common.{◌≡◌, ◌≢◌, ◌<◌, ℕ, Bool, true, false, ◌==◌, ◌⊎◌, inl, inr, ⊎_elim, List, [], ◌∷◌, Option, Some, None, refl, sym, ap, ◌∙◌, subst}
use Rattle.std.proofs.lemmas.Bool.{false≢true, cases_eq}
use Rattle.once_machine.specs.Record.{Entry, Kind, OwnerCall, Take, Write, has_call, is_lazy, made_in}
use Rattle.once_machine.specs.declared.record.Ran.{Ran as Answer}
use Rattle.once_machine.specs.Cell.{cell, is_set}
use Rattle.once_machine.specs.Tasks.{Waiting, is_under_way, status}
use Rattle.once_machine.specs.Inputs.{Drop, Go, Input, Looks, Make, Owns, Poll}
use Rattle.once_machine.specs.Log.{standing_queue}
use Rattle.once_machine.specs.Machine.{SharedState, Outcome, World, advance, world_after, step_of_poll}
use Rattle.once_machine.specs.declared.step.Step.TheVariants.{Finished, Resting, UnderWay}
use Rattle.once_machine.specs.declared.step.Step.{Step}
use Rattle.once_machine.specs.declared.task.Task.{Task}
use Rattle.once_machine.specs.Machine.{poll_world_by, step_of_drop, drop_world_by, drop_world, fresh_task, go_world, go_world_by, history_of, in_call}
use Rattle.once_machine.specs.Machine.{is_resting, log_of, make_world, own_world_by, owner_shared, poll_world, put_task, write_shared, world_of}
use Rattle.once_machine.specs.Machine.{step_of}
use Rattle.once_machine.proofs.History.Cells.{holder_unset, none_some}
use Rattle.once_machine.proofs.Listing.Counting.{count_some}
use Rattle.once_machine.proofs.Invariant.Facts.{AtStep, IsSomeDoor, is_counted}
use Rattle.once_machine.proofs.Invariant.Fits.{Fits, StandsFor}
use Rattle.once_machine.proofs.Invariant.Moves.{Puts, puts}
use Rattle.once_machine.proofs.Invariant.Around.{around, place_acts, stands_counted, stands_waiting}
use Rattle.once_machine.proofs.Input.Headline.{task_fits, world_fits}
use Rattle.once_script.proofs.Door.Logged.{log_stands}
use Rattle.once_script.proofs.Door.Late.{Clean, clean_step, is_late}

-- a queue stands at the door while some task waits
pub waits_stand : (K : Kind) (limit : ℕ) (inputs : List Input) (t : ℕ) → 0 < limit
    → status K t (history_of K limit inputs) ≡ Waiting → (q : ℕ) × (standing_queue (log_of K limit inputs) ≡ Some q)
waits_stand K limit inputs t some s =
    let f = world_fits K limit inputs some in
    let d = stands_waiting K limit t (world_of K limit inputs).shared (history_of K limit inputs) ((world_of K limit inputs).tasks t) (f.tasks t) s in
    (d.1.0, log_stands K limit inputs some ∙ d.1.1)

-- some task is late
abbrev SomeLate : (ℕ → Option Task) → Type 0
SomeLate tasks = (u : ℕ) × (is_late (step_of (tasks u)) ≡ true)

-- a queue at the door of a set cell has a task in the count, or a late task
abbrev IsClean : World → Type 0
IsClean w = w.shared.ready ≡ true → IsSomeDoor w.shared → (0 < w.shared.count) ⊎ SomeLate w.tasks

-- another task than t is late
abbrev OtherLate : ℕ → (ℕ → Option Task) → Type 0
OtherLate t tasks = (u : ℕ) × (t ≢ u) × (is_late (step_of (tasks u)) ≡ true)

-- t is late or another task is
split_late : (t : ℕ) (tasks : ℕ → Option Task) → SomeLate tasks → (is_late (step_of (tasks t)) ≡ true) ⊎ OtherLate t tasks
split_late t tasks s = ⊎_elim (λ e. inl (subst (λ u. is_late (step_of (tasks u)) ≡ true) (sym e) s.1)) (λ n. inr (s.0, n, s.1)) (cases_eq t s.0)

-- another task that was late still is
other_kept : (t : ℕ) (y : Task) (old new : ℕ → Option Task) → Puts t y old new → OtherLate t old → SomeLate new
other_kept t y old new p o = (o.0, ap (λ v. is_late (step_of v)) (p.others o.0 o.1) ∙ o.2)

-- if t was not late, the tasks that were late still are
late_kept : (t : ℕ) (y : Task) (tasks : ℕ → Option Task) → is_late (step_of (tasks t)) ≡ false → SomeLate tasks → SomeLate (put_task t y tasks)
late_kept t y tasks n s = ⊎_elim (λ e. absurd (false≢true (sym n ∙ e))) (λ o. other_kept t y tasks (put_task t y tasks) (puts t y tasks) o) (split_late t tasks s)

-- a task at rest is not late
resting_early : (s : Step ℕ ℕ) → is_resting s ≡ true → is_late s ≡ false
resting_early (Resting r) e = refl
resting_early (UnderWay p) e = absurd (false≢true e)
resting_early Finished e = refl

-- a step keeps the door clean
goes_clean : (K : Kind) (limit : ℕ) (w : World) (t : ℕ) (a : Answer) (g : Bool) (x : Task) → 0 < limit
    → Fits K limit w → w.tasks t ≡ Some x → IsClean w → (r : Bool)
    → IsClean (go_world_by r (is_lazy K) limit w t a g x)
goes_clean K limit w t a g x some f found k false = k
goes_clean K limit w t a g x some f found k true =
    let o : Outcome = advance (is_lazy K) limit w.shared t x a g in
    let y : Task = record x { step = o.step; kept = o.kept } in
    let p : Puts t y w.tasks (put_task t y w.tasks) = puts t y w.tasks in
    let own = task_fits K limit t w x f found in
    let before : Clean w.shared x.step (OtherLate t w.tasks) = λ r d. ⊎_elim (λ l. inl l)
    (λ s. ⊎_elim (λ e. inr (inl (sym (ap (λ v. is_late (step_of v)) found) ∙ e))) (λ q. inr (inr q))
    (split_late t w.tasks s)) (k r d) in
    let later = clean_step K limit t x.waker x.kept w.shared w.history some f.shared (OtherLate t w.tasks) a g x.step (around K limit t x w f found) own.step before in
    λ r d. ⊎_elim (λ l. inl l) (λ s. inr (⊎_elim (λ e. (t, ap (λ v. is_late (step_of v)) p.there ∙ e)) (λ q. other_kept t y w.tasks (put_task t y w.tasks) p q) s)) (later r d)

-- so does a Go
gone_clean : (K : Kind) (limit : ℕ) (w : World) (t : ℕ) (a : Answer) (g : Bool) → 0 < limit → Fits K limit w
    → IsClean w → (o : Option Task) → w.tasks t ≡ o → IsClean (go_world (is_lazy K) limit w t a g o)
gone_clean K limit w t a g some f k None is = k
gone_clean K limit w t a g some f k (Some x) is = goes_clean K limit w t a g x some f is k (in_call x.step)

-- a change of a task that was not late
changed_clean : (w : World) (t : ℕ) (y : Task) → is_late (step_of (w.tasks t)) ≡ false → IsClean w → IsClean (record w { tasks = put_task t y w.tasks })
changed_clean w t y n c = λ r d. ⊎_elim (λ l. inl l) (λ s. inr (late_kept t y w.tasks n s)) (c r d)

-- so is a task of the world
early : (x : Task) (t : ℕ) (w : World) → w.tasks t ≡ Some x → is_resting x.step ≡ true → is_late (step_of (w.tasks t)) ≡ false
early x t w found r = ap (λ o. is_late (step_of o)) found ∙ resting_early x.step r

-- the beginnings of a poll and of a drop change no late task
begun_clean : (w : World) (t k : ℕ) (x : Task) → w.tasks t ≡ Some x → IsClean w → (r : Bool) → is_resting x.step ≡ r → IsClean (poll_world_by r w t k x)
begun_clean w t k x found c false r = c
begun_clean w t k x found c true r = changed_clean w t (record x { waker = k; step = step_of_poll x.step }) (early x t w found r) c

drop_clean : (w : World) (t : ℕ) (x : Task) → w.tasks t ≡ Some x → IsClean w → (r : Bool) → is_resting x.step ≡ r → IsClean (drop_world_by r w t x)
drop_clean w t x found c false r = c
drop_clean w t x found c true r = changed_clean w t (record x { step = step_of_drop x.step }) (early x t w found r) c

polled_clean : (w : World) (t k : ℕ) → IsClean w → (o : Option Task) → w.tasks t ≡ o → IsClean (poll_world w t k o)
polled_clean w t k c None is = c
polled_clean w t k c (Some x) is = begun_clean w t k x is c (is_resting x.step) refl

dropped_clean : (w : World) (t : ℕ) → IsClean w → (o : Option Task) → w.tasks t ≡ o → IsClean (drop_world w t o)
dropped_clean w t c None is = c
dropped_clean w t c (Some x) is = drop_clean w t x is c (is_resting x.step) refl

-- nor does the making of a task
made_clean : (w : World) (t : ℕ) → IsClean w → (o : Option Task) → w.tasks t ≡ o → IsClean (make_world w t o)
made_clean w t c (Some x) is = c
made_clean w t c None is = changed_clean w t fresh_task (ap (λ o. is_late (step_of o)) is) c

-- nor do the calls of the owner
write_clean : (w : World) (v : ℕ) (r : Bool) → IsClean w → IsClean (record w { shared = write_shared r v w.shared })
write_clean w v true k = k
write_clean w v false k = k

owner_clean : (w : World) (o : OwnerCall) → IsClean w → IsClean (record w { shared = owner_shared o w.shared })
owner_clean w Take k = λ r d. absurd (none_some d.0 d.1)
owner_clean w (Write v) k = write_clean w v w.shared.ready k
owner_clean w _ k = λ r d. absurd (none_some d.0 d.1)

owned_clean : (w : World) (o : OwnerCall) (d b : Bool) → IsClean w → IsClean (own_world_by d b w o)
owned_clean w o true true k = owner_clean w o k
owned_clean w o _ _ k = k

-- each input keeps the door clean
after_clean : (K : Kind) (limit : ℕ) (w : World) (i : Input) → 0 < limit → Fits K limit w → IsClean w → IsClean (world_after K limit w i)
after_clean K limit w (Make t) some f c = made_clean w t c (w.tasks t) refl
after_clean K limit w (Poll t k) some f c = polled_clean w t k c (w.tasks t) refl
after_clean K limit w (Drop t) some f c = dropped_clean w t c (w.tasks t) refl
after_clean K limit w (Go t a g) some f c = gone_clean K limit w t a g some f c (w.tasks t) refl
after_clean K limit w (Owns o) some f c = owned_clean w o (w.unfinished == 0) (has_call K o) c
after_clean K limit w Looks some f c = c

-- the door is clean after all inputs
world_clean : (K : Kind) (limit : ℕ) (inputs : List Input) → 0 < limit → IsClean (world_of K limit inputs)
world_clean K limit [] some = λ r d. absurd (none_some d.0 d.1)
world_clean K limit (i ∷ before) some = after_clean K limit (world_of K limit before) i some (world_fits K limit before some) (world_clean K limit before some)

-- a late task is in a call
late_acts : (K : Kind) (limit t : ℕ) (c : SharedState) (h : List Entry) (s : Step ℕ ℕ) → AtStep K limit t c h s
    → is_late s ≡ true → is_under_way (status K t h) ≡ true
late_acts K limit t c h (UnderWay p) a e = place_acts K limit t c h p a
late_acts K limit t c h _ a e = absurd (false≢true e)

-- so is one of the world
stands_late : (K : Kind) (limit t : ℕ) (c : SharedState) (h : List Entry) (o : Option Task)
    → StandsFor K limit t c h o → is_late (step_of o) ≡ true → is_under_way (status K t h) ≡ true
stands_late K limit t c h None a e = absurd (false≢true e)
stands_late K limit t c h (Some x) a e = late_acts K limit t c h x.step a.step e

-- no queue stands if none can
none_left : (d : Option ℕ) → ((q : ℕ) → d ≡ Some q → ⊥) → d ≡ None
none_left None n = refl
none_left (Some q) n = absurd (n q refl)

-- no queue stands at the door if no call is under way, the cell is set and no task waits
pub no_queue_kept : (K : Kind) (limit : ℕ) (inputs : List Input) → 0 < limit → is_set (cell K (history_of K limit inputs)) ≡ true
    → ((t : ℕ) → is_under_way (status K t (history_of K limit inputs)) ≡ false) → ((t : ℕ) → status K t (history_of K limit inputs) ≢ Waiting) → standing_queue (log_of K limit inputs) ≡ None
no_queue_kept K limit inputs some set idle awake =
    let w : World = world_of K limit inputs in
    let f = world_fits K limit inputs some in
    let none : (q : ℕ) → w.shared.door ≡ Some q → ⊥ = λ q d. ⊎_elim
    (λ l. let u = count_some (made_in w.history) (λ n. is_counted (step_of (w.tasks n))) (subst (λ n. 0 < n) f.count_is l) in
    ⊎_elim (λ e. awake u.0 e) (λ e. ⊎_elim (λ x. false≢true (sym (idle u.0) ∙ x)) (λ x. false≢true (sym (holder_unset u.0 (cell K w.history) x.1) ∙ set)) e)
    (stands_counted K limit u.0 w.shared w.history (w.tasks u.0) (f.tasks u.0) u.1))
    (λ s. false≢true (sym (idle s.0) ∙ stands_late K limit s.0 w.shared w.history (w.tasks s.0) (f.tasks s.0) s.1))
    (world_clean K limit inputs some (f.shared.ready_is ∙ set) (q, d)) in
    log_stands K limit inputs some ∙ none_left w.shared.door none
