-- Each input has its part.
use Rattle.std.proofs.Common.{◌≡◌, ◌≢◌, ℕ, suc, Bool, true, false, cond, ◌==◌, ◌⊎◌, inl, inr, ⊎_elim, List, [], ◌∷◌, Option, Some, None, refl, sym, ap, ◌∙◌, subst, arith}
use Rattle.std.specs.Prelude.{not}
use Rattle.std.proofs.lemmas.Bool.{false≢true, cases_eq, ne_eqb, eq-eqb}
use Rattle.once_machine.specs.Record.{Begin, Entry, Kind, Look, Made, Own, OwnerCall, has_call, is_lazy, replaces}
use Rattle.once_machine.specs.declared.record.Ran.{Ran as Answer}
use Rattle.once_machine.specs.Tasks.{Unmade, all_gone, is_under_way, status}
use Rattle.once_machine.specs.Inputs.{AreOfStep, Drop, Go, Input, Looks, Make, Owns, Poll, begins_call, ends_for_memory, is_fitting_go}
use Rattle.once_machine.specs.Log.{owned_lines, standing_queue}
use Rattle.once_machine.specs.Machine.{SharedState, Outcome, World, advance, world_after, step_of_poll, poll_world_by, drop_entries}
use Rattle.once_machine.specs.declared.log.QueueLine.{QueueLine}
use Rattle.once_machine.specs.declared.step.Step.{Step}
use Rattle.once_machine.specs.declared.task.Task.{Task}
use Rattle.once_machine.specs.Machine.{step_of_drop, drop_world_by, drop_world, fresh_task, go_world, go_world_by, in_call, is_resting, look_value, make_world}
use Rattle.once_machine.specs.Machine.{own_world_by, owner_got, owner_lines, poll_world, put_task, step_lines, step_of}
use Rattle.once_machine.proofs.Invariant.Fits.{Fits, StandsFor}
use Rattle.once_machine.proofs.Invariant.Moves.{Puts, puts}
use Rattle.once_machine.proofs.Input.Gone.{gone_is}
use Rattle.once_machine.proofs.Input.Owner.{owner_is_got}
use Rattle.once_machine.proofs.Input.Makes.{looked_is}
use Rattle.once_machine.proofs.Input.Headline.{task_fits}
use Rattle.once_machine.proofs.Shared.Adds.{step_part}
use Rattle.once_script.proofs.Part.Tells.{StepTells, is_refused, tells}
use Rattle.once_script.proofs.Part.Needs.{need_step, one_line}
use Rattle.once_script.proofs.Part.Apart.{step_begins, step_memory}
use Rattle.once_script.proofs.Part.Budget.{Budget, HasPart, begin_part, gos_after, nothing, quiet_part, ungranted_after}
use Rattle.once_script.proofs.Part.Beginnings.{begins_if, begun_granted, cond_id, drop_begins_call, drop_memory, dropped_granted, drops_if, step_acts, step_begins_so, step_drops_so, step_made}

-- by whether the task is the one of the Go
unfit_by : (K : Kind) (t v : ℕ) (h : List Entry) → is_under_way (status K t h) ≡ false → (t ≡ v) ⊎ (t ≢ v)
    → cond (t == v) (is_under_way (status K v h)) false ≡ false
unfit_by K t v h n (inl e) = rw (eq-eqb t v e) (subst (λ u. is_under_way (status K u h) ≡ false) e n)
unfit_by K t v h n (inr d) = rw (ne_eqb t v d) refl

-- a Go of a task without a call under way does not fit
unfit_go : (K : Kind) (t v : ℕ) (a : Answer) (g : Bool) (h : List Entry) → is_under_way (status K t h) ≡ false → is_fitting_go K v (Go t a g) h ≡ false
unfit_go K t v a g h n = unfit_by K t v h n (cases_eq t v)

-- a step without memory is remembered
met_refusal : (g u : Bool) → (u ≡ true) ⊎ (g ≡ false) → ungranted_after false true (not g) u ≡ true
met_refusal true u (inl e) = e
met_refusal false u r = refl
met_refusal true u (inr e) = absurd (false≢true (sym e))

-- a step keeps within the budget
stepped_budget : (n : ℕ) (u g : Bool) (s : Step ℕ ℕ) (o : Outcome) → in_call s ≡ true → StepTells g s o → Budget n u s
    → Budget (suc n) (ungranted_after false true (not g) u) o.step
stepped_budget n u g s o c l b = record {
  steps = λ e. let k = b.steps c in let m = l.lowers e in omega arith;
  refused = λ e. met_refusal g u (⊎_elim (λ r. inl (b.refused r)) (λ r. inr r) (l.refuses e));
}

-- the part of a step of t, which is at s and comes to y
go_budget : (K : Kind) (w w' : World) (t : ℕ) (a : Answer) (g : Bool) (s : Step ℕ ℕ) (y : Task) (o : Outcome)
    → step_of (w.tasks t) ≡ s → in_call s ≡ true → is_under_way (status K t w.history) ≡ true → StepTells g s o
    → y.step ≡ o.step → Puts t y w.tasks w'.tasks → AreOfStep K t a o.entries
    → (v n : ℕ) (u : Bool) → (t ≡ v) ⊎ (t ≢ v) → Budget n u (step_of (w.tasks v))
    → Budget (gos_after (begins_call v o.entries) (is_fitting_go K v (Go t a g) w.history) n)
    (ungranted_after (begins_call v o.entries) (is_fitting_go K v (Go t a g) w.history) (not g) u)
    (step_of (w'.tasks v))
go_budget K w w' t a g s y o found c acts l d q z v n u (inl e) b =
    let acts' : is_under_way (status K v w.history) ≡ true = subst (λ k. is_under_way (status K k w.history) ≡ true) e acts in
    let b' : Budget n u s = subst (λ x. Budget n u x) (ap (λ k. step_of (w.tasks k)) (sym e) ∙ found) b in
    let there : step_of (w'.tasks v) ≡ o.step = ap (λ k. step_of (w'.tasks k)) (sym e) ∙ ap step_of q.there ∙ d in
    rw (step_begins K t v a o.entries z, eq-eqb t v e, acts', there) (stepped_budget n u g s o c l b')
go_budget K w w' t a g s y o found c acts l d q z v n u (inr m) b = rw (step_begins K t v a o.entries z, ne_eqb t v m) (rw (q.others v m) b)

-- what a step of t refuses
go_memory : (K : Kind) (w : World) (t : ℕ) (a : Answer) (g : Bool) (s : Step ℕ ℕ) (o : Outcome)
    → step_of (w.tasks t) ≡ s → is_under_way (status K t w.history) ≡ true → StepTells g s o → AreOfStep K t a o.entries
    → (v n : ℕ) (u : Bool) → (t ≡ v) ⊎ (t ≢ v) → Budget n u (step_of (w.tasks v))
    → ends_for_memory v o.entries ≡ true → ungranted_after (begins_call v o.entries)
    (is_fitting_go K v (Go t a g) w.history) (not g) u ≡ true
go_memory K w t a g s o found acts l z v n u (inl e) b m =
    let acts' : is_under_way (status K v w.history) ≡ true = subst (λ k. is_under_way (status K k w.history) ≡ true) e acts in
    let b' : Budget n u s = subst (λ x. Budget n u x) (ap (λ k. step_of (w.tasks k)) (sym e) ∙ found) b in
    rw (step_begins K t v a o.entries z, eq-eqb t v e, acts') (met_refusal g u (⊎_elim (λ r. inl (b'.refused r)) (λ r. inr r) (l.memory v m)))
go_memory K w t a g s o found acts l z v n u (inr d) b m = absurd (false≢true (sym (step_memory K t v a o.entries d z) ∙ m))

-- the part of a Go, by whether a call is under way
go_part : (K : Kind) (limit : ℕ) (w : World) (t : ℕ) (a : Answer) (g : Bool) (x : Task) → Fits K limit w
    → w.tasks t ≡ Some x → (r : Bool) → in_call x.step ≡ r
    → HasPart K w (go_world_by r (is_lazy K) limit w t a g x) (Go t a g)
go_part K limit w t a g x f found true c =
    let own = task_fits K limit t w x f found in
    let acts : is_under_way (status K t w.history) ≡ true = step_acts K limit t w.shared w.history x.step own.step ∙ c in
    let o : Outcome = advance (is_lazy K) limit w.shared t x a g in
    let y : Task = record x { step = o.step; kept = o.kept } in
    let l : StepTells g x.step o = tells K w.shared t x.kept w.history limit x.waker a g x.step own.step c in
    let z : AreOfStep K t a o.entries = step_part K w.shared t x.kept a limit x.waker g x.step in
    let was : step_of (w.tasks t) ≡ x.step = ap step_of found in
    record {
      entries = o.entries;
      lines = step_lines g w.shared x.step;
      history_is = refl;
      log_is = refl;
      adds = rw acts z;
      adds_lines = (one_line g w.shared x.step, need_step K w.shared t x.kept w.history limit x.waker a g x.step own.step);
      budget = λ v n u b. go_budget K w (go_world_by true (is_lazy K) limit w t a g x) t a g x.step y o was c acts l refl (puts t y w.tasks) z v n u (cases_eq t v) b;
      memory = λ v n u b m. go_memory K w t a g x.step o was acts l z v n u (cases_eq t v) b m;
    }
go_part K limit w t a g x f found false c =
    let own = task_fits K limit t w x f found in
    let idle : is_under_way (status K t w.history) ≡ false = step_acts K limit t w.shared w.history x.step own.step ∙ c in
    nothing K w (Go t a g) (rw idle refl) (tt, λ e. absurd (false≢true e)) (λ v. unfit_go K t v a g w.history idle)

-- a task that is not there is unmade
unmade_acts : (K : Kind) (limit t : ℕ) (w : World) → Fits K limit w → w.tasks t ≡ None → status K t w.history ≡ Unmade
unmade_acts K limit t w f is = let own : StandsFor K limit t w.shared w.history None = rw is at (f.tasks t) in own.0.status_is

-- the part of a poll, by whether the task is at rest
begun_part : (K : Kind) (limit : ℕ) (w : World) (t k : ℕ) (x : Task) → Fits K limit w → w.tasks t ≡ Some x
    → (r : Bool) → is_resting x.step ≡ r → HasPart K w (poll_world_by r w t k x) (Poll t k)
begun_part K limit w t k x f found true r =
    let own = task_fits K limit t w x f found in
    let y : Task = record x { waker = k; step = step_of_poll x.step } in
    begin_part K w (poll_world_by true w t k x) (Poll t k) t y (Begin t k ∷ []) (puts t y w.tasks) refl refl
    (sym (ap (λ b. begins_if b t k) r) ∙ step_begins_so K limit t k w.shared w.history x.step own.step) refl
    (λ v. cond_id (t == v)) (λ v. refl) (λ v. refl) (begun_granted x.step r)
begun_part K limit w t k x f found false r =
    let own = task_fits K limit t w x f found in
    nothing K w (Poll t k) (sym (ap (λ b. begins_if b t k) r) ∙ step_begins_so K limit t k w.shared w.history x.step own.step) refl (λ v. refl)

-- the part of a drop
dropped_part : (K : Kind) (limit : ℕ) (w : World) (t : ℕ) (x : Task) → Fits K limit w → w.tasks t ≡ Some x
    → (r : Bool) → is_resting x.step ≡ r → HasPart K w (drop_world_by r w t x) (Drop t)
dropped_part K limit w t x f found true r =
    let own = task_fits K limit t w x f found in
    let y : Task = record x { step = step_of_drop x.step } in
    begin_part K w (drop_world_by true w t x) (Drop t) t y (drop_entries t (step_of_drop x.step))
    (puts t y w.tasks) refl refl (sym (ap (λ b. drops_if b t x.step) r)
    ∙ step_drops_so K limit t w.shared w.history x.step own.step) refl
    (λ v. drop_begins_call t v (step_of_drop x.step)) (λ v. refl) (λ v. drop_memory t v (step_of_drop x.step)) (dropped_granted x.step r)
dropped_part K limit w t x f found false r =
    let own = task_fits K limit t w x f found in
    nothing K w (Drop t) (sym (ap (λ b. drops_if b t x.step) r) ∙ step_drops_so K limit t w.shared w.history x.step own.step) refl (λ v. refl)

-- the parts of the inputs, by whether the task is there
make_has : (K : Kind) (limit : ℕ) (w : World) (t : ℕ) → Fits K limit w → (o : Option Task) → w.tasks t ≡ o → HasPart K w (make_world w t o) (Make t)
make_has K limit w t f None is = quiet_part K w (make_world w t None) (Make t) (Made t ∷ []) [] refl refl (rw (unmade_acts K limit t w f is) refl) refl (λ v. refl) (λ v. refl) (λ v. refl)
    (λ v. let p = puts t fresh_task w.tasks in ⊎_elim
    (λ e. let there : put_task t fresh_task w.tasks v ≡ Some fresh_task = ap (put_task t fresh_task w.tasks)
    (sym e) ∙ p.there in inr (ap (λ o. in_call (step_of o)) there, ap (λ o. is_refused (step_of o)) there))
    (λ d. inl (ap step_of (p.others v d))) (cases_eq t v))
make_has K limit w t f (Some x) is = let own = task_fits K limit t w x f is in nothing K w (Make t) (step_made K limit t w.shared w.history x.step own.step) refl (λ v. refl)

poll_has : (K : Kind) (limit : ℕ) (w : World) (t k : ℕ) → Fits K limit w → (o : Option Task) → w.tasks t ≡ o → HasPart K w (poll_world w t k o) (Poll t k)
poll_has K limit w t k f None is = nothing K w (Poll t k) (rw (unmade_acts K limit t w f is) refl) refl (λ v. refl)
poll_has K limit w t k f (Some x) is = begun_part K limit w t k x f is (is_resting x.step) refl

drop_has : (K : Kind) (limit : ℕ) (w : World) (t : ℕ) → Fits K limit w → (o : Option Task) → w.tasks t ≡ o → HasPart K w (drop_world w t o) (Drop t)
drop_has K limit w t f None is = nothing K w (Drop t) (rw (unmade_acts K limit t w f is) refl) refl (λ v. refl)
drop_has K limit w t f (Some x) is = dropped_part K limit w t x f is (is_resting x.step) refl

go_has : (K : Kind) (limit : ℕ) (w : World) (t : ℕ) (a : Answer) (g : Bool) → Fits K limit w → (o : Option Task)
    → w.tasks t ≡ o → HasPart K w (go_world (is_lazy K) limit w t a g o) (Go t a g)
go_has K limit w t a g f None is =
    let idle : is_under_way (status K t w.history) ≡ false = ap is_under_way (unmade_acts K limit t w f is) in
    nothing K w (Go t a g) (rw idle refl) (tt, λ e. absurd (false≢true e)) (λ v. unfit_go K t v a g w.history idle)
go_has K limit w t a g f (Some x) is = go_part K limit w t a g x f is (in_call x.step) refl

-- the queue at the door is the one of the log
owner_lines_are : (r : Bool) (c : SharedState) (log : List QueueLine) → standing_queue log ≡ c.door → owner_lines r c ≡ owned_lines true r (standing_queue log)
owner_lines_are true c log d = rw d refl
owner_lines_are false c log d = refl

-- the part of an owner's call
owns_part : (K : Kind) (limit : ℕ) (w : World) (o : OwnerCall) → Fits K limit w
    → standing_queue w.log ≡ w.shared.door → (d b : Bool) → has_call K o ≡ b → all_gone K w.history ≡ d
    → HasPart K w (own_world_by d b w o) (Owns o)
owns_part K limit w o f l true true b a =
    quiet_part K w (own_world_by true true w o) (Owns o) (Own o (owner_got o w.shared) ∷ [])
    (owner_lines (replaces o) w.shared) refl refl
    (rw (a, b) (ap (λ g. Own o g ∷ []) (owner_is_got K limit o w.shared w.history f.shared)))
    (rw (a, b) (owner_lines_are (replaces o) w.shared w.log l)) (λ v. refl) (λ v. refl) (λ v. refl) (λ v. inl refl)
owns_part K limit w o f l true false b a = nothing K w (Owns o) (rw (a, b) refl) (rw (a, b) refl) (λ v. refl)
owns_part K limit w o f l false b e a = nothing K w (Owns o) (rw a refl) (rw a refl) (λ v. refl)

-- each input has its part
pub input_part : (K : Kind) (limit : ℕ) (w : World) (i : Input) → Fits K limit w
    → standing_queue w.log ≡ w.shared.door → HasPart K w (world_after K limit w i) i
input_part K limit w (Make t) f l = make_has K limit w t f (w.tasks t) refl
input_part K limit w (Poll t k) f l = poll_has K limit w t k f (w.tasks t) refl
input_part K limit w (Drop t) f l = drop_has K limit w t f (w.tasks t) refl
input_part K limit w (Go t a g) f l = go_has K limit w t a g f (w.tasks t) refl
input_part K limit w (Owns o) f l = owns_part K limit w o f l (w.unfinished == 0) (has_call K o) refl (gone_is K limit w f)
input_part K limit w Looks f l =
    quiet_part K w (world_after K limit w Looks) Looks (Look (look_value w.shared) ∷ []) [] refl refl
    (ap (λ r. Look r ∷ []) (looked_is K limit w.shared w.history f.shared)) refl (λ v. refl) (λ v. refl)
    (λ v. refl) (λ v. inl refl)
