-- The slot is written once: by a holder whose init gave the value, before it gives the right back.
use Rattle.std.proofs.Common.{◌≡◌, ℕ, Bool, true, false, ◌⊎◌, inl, inr, ⊎_elim, Option, Some, None, List, refl, sym, ap, ◌∙◌, subst, arith}
use Rattle.std.proofs.lemmas.Grind.{common_steps}
use Rattle.std.specs.Prelude.{◌||◌}
use Rattle.std.proofs.lemmas.Bool.{false≢true, cases_eq}
use Rattle.once_machine.specs.Record.{Entry, Once}
use Rattle.once_machine.specs.Cell.{Cell, cell}
use Rattle.once_machine.specs.Book.{SlotIs, has_written, has_written_at}
use Rattle.once_machine.specs.Machine.{AtPut, Place, SharedState, Step, Task, UnderWay, World, first_world, put_task, step_of}
use Rattle.once_machine.proofs.History.Others.{holds}
use Rattle.once_machine.proofs.History.Cells.{held_by, holder_unset}
use Rattle.once_machine.proofs.Invariant.Facts.{AtPlace, AtStep}
use Rattle.once_machine.proofs.Invariant.Fits.{Fits, StandsFor}
use Rattle.once_machine.proofs.Invariant.Kept.{releasing_holds}
use Rattle.once_machine.proofs.Invariant.Moves.{Puts, puts}
use Rattle.once_machine.proofs.Input.Headline.{task_fits}

-- the place of a holder that is about to write it
abbrev pub is_put_at : Place ℕ ℕ → Bool
is_put_at (AtPut by) = true
is_put_at _ = false

-- what a move of a task to the step s owes, by whether it writes the slot now, or did so before
pub record SlotKeeps (writes wrote : Bool) (s : Step ℕ ℕ) (c c' : SharedState) : Type 0 where
  pub onward : (writes || wrote) ≡ true → (has_written s ≡ true) ⊎ (c'.ready ≡ true)
  pub only : has_written s ≡ true → (writes || wrote) ≡ true
  pub ready_by : c'.ready ≡ true → (c.ready ≡ true) ⊎ (wrote ≡ true)
  pub up : c.ready ≡ true → c'.ready ≡ true

-- one that leaves the ready flag alone, after which its task counts as one that wrote it exactly if it did before
pub slot_same : {wrote : Bool} {s : Step ℕ ℕ} {c c' : SharedState} → has_written s ≡ wrote → c'.ready ≡ c.ready → SlotKeeps false wrote s c c'
slot_same is r = record {
  onward = λ e. inl (is ∙ e);
  only = λ e. sym is ∙ e;
  ready_by = λ e. inl (sym r ∙ e);
  up = λ e. r ∙ e;
}

-- the slot is not written at the start
pub slot_opens : SlotIs false (first_world Once)
slot_opens = (λ e. absurd (false≢true e), λ f. ⊎_elim (λ e. e) (λ u. u.1) f)

-- t is at y now, which writes the slot or not
pub slot_kept : (writes slot : Bool) (w w' : World) (t : ℕ) (y : Task) → w'.tasks ≡ put_task t y w.tasks
    → SlotKeeps writes (has_written (step_of (w.tasks t))) y.step w.shared w'.shared → SlotIs slot w → SlotIs (writes || slot) w'
slot_kept true slot w w' t y e k f =
    let p : Puts t y w.tasks w'.tasks = subst (λ (ts : ℕ → Option Task). Puts t y w.tasks ts) (sym e) (puts t y w.tasks) in (
      λ _. ⊎_elim (λ x. inr (t, ap (λ o. has_written (step_of o)) p.there ∙ x)) (λ r. inl r) (k.onward refl),
      λ _. refl,
    )
slot_kept false slot w w' t y e k f =
    let p : Puts t y w.tasks w'.tasks = subst (λ (ts : ℕ → Option Task). Puts t y w.tasks ts) (sym e) (puts t y w.tasks) in
    let here : has_written (step_of (w'.tasks t)) ≡ has_written y.step = ap (λ o. has_written (step_of o)) p.there in
    let W : ℕ → Type 0 = λ u. has_written (step_of (w.tasks u)) ≡ true in
    let W' : ℕ → Type 0 = λ u. has_written (step_of (w'.tasks u)) ≡ true in (
      λ b. ⊎_elim (λ r. inl (k.up r))
          (λ s. ⊎_elim
          (λ i. ⊎_elim (λ x. inr (t, here ∙ x)) (λ r. inl r) (k.onward (subst W (sym i) s.1)))
          (λ n. inr (s.0, ap (λ o. has_written (step_of o)) (p.others s.0 n) ∙ s.1))
          (cases_eq t s.0))
          (f.0 b),
      λ a. ⊎_elim (λ r. ⊎_elim (λ x. f.1 (inl x)) (λ x. f.1 (inr (t, x))) (k.ready_by r))
          (λ s. ⊎_elim
          (λ i. f.1 (inr (t, k.only (sym here ∙ subst W' (sym i) s.1))))
          (λ n. f.1 (inr (s.0, sym (ap (λ o. has_written (step_of o)) (p.others s.0 n)) ∙ s.1)))
          (cases_eq t s.0))
          a,
    )

-- a task that wrote it holds, by the place
writer_holds_at : (limit u : ℕ) (c : SharedState) (h : List Entry) (p : Place ℕ ℕ) → AtPlace Once limit u c h p → has_written_at p ≡ true → holds u (cell Once h) ≡ true
writer_holds_at limit u c h p a i = grind (arith, common_steps, releasing_holds)

-- by the step
writer_holds_in : (limit u : ℕ) (c : SharedState) (h : List Entry) (s : Step ℕ ℕ) → AtStep Once limit u c h s → has_written s ≡ true → holds u (cell Once h) ≡ true
writer_holds_in limit u c h (UnderWay p) a i = writer_holds_at limit u c h p a i
writer_holds_in limit u c h _ a i = absurd (false≢true i)

-- by the task
writer_holds : (limit u : ℕ) (c : SharedState) (h : List Entry) (o : Option Task) → StandsFor Once limit u c h o → has_written (step_of o) ≡ true → holds u (cell Once h) ≡ true
writer_holds limit u c h None a i = absurd (false≢true i)
writer_holds limit u c h (Some x) a i = writer_holds_in limit u c h x.step a.step i

-- two that hold are one
pub one_holder : (t u : ℕ) (c : Cell) → holds t c ≡ true → holds u c ≡ true → t ≡ u
one_holder t u c a b = let e = sym (held_by t c a) ∙ held_by u c b in cc

-- a task that is about to write it finds it not written
pub slot_free : {limit : ℕ} {w : World} (t : ℕ) {x : Task} {by : Option ℕ} {slot : Bool} → Fits Once limit w → SlotIs slot w → w.tasks t ≡ Some x → x.step ≡ UnderWay (AtPut by)
    → slot ≡ false
slot_free {limit} {w} t {x} {by} {slot = true} f s found at =
    let own = task_fits Once limit t w x f found in
    let a : AtPlace Once limit t w.shared w.history (AtPut by) = subst (λ y. AtStep Once limit t w.shared w.history y) at own.step in
    let r : w.shared.ready ≡ false = f.shared.ready_is ∙ holder_unset t (cell Once w.history) a.1.holds_is in
    absurd (⊎_elim (λ e. false≢true (sym r ∙ e))
    (λ u. let v = writer_holds limit u.0 w.shared w.history (w.tasks u.0) (f.tasks u.0) u.1 in
    let same : t ≡ u.0 = one_holder t u.0 (cell Once w.history) a.1.holds_is v in
    false≢true (sym (ap (λ o. has_written (step_of o)) found ∙ ap has_written at) ∙ subst (λ m. has_written (step_of (w.tasks m)) ≡ true) (sym same) u.1))
    (s.0 refl))
slot_free t {slot = false} f s found at = refl
