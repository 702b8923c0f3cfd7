-- The part of one input: what it adds to the record and to the log, and what it changes for each task.
use Rattle.std.proofs.Common.{◌≡◌, ◌≤◌, ◌+◌, ℕ, suc, Bool, true, false, cond, not, ◌==◌, ◌⊎◌, inl, ⊎_elim, List, [], ◌∷◌, ◌++◌, length, refl, sym, ap, ◌∙◌, arith}
use Rattle.std.proofs.lemmas.Bool.{false≢true, cases_eq, ne_eqb, eq-eqb}
use Rattle.once_machine.specs.Record.{Entry, Kind}
use Rattle.once_machine.specs.Inputs.{Adds, Input, begins_call, all_granted, ends_for_memory, is_fitting_go, is_ungranted}
use Rattle.once_machine.specs.Log.{AddsLines}
use Rattle.once_machine.specs.Machine.{World, in_call, left_of, step_of}
use Rattle.once_machine.specs.declared.log.QueueLine.{QueueLine}
use Rattle.once_machine.specs.declared.step.Step.{Step}
use Rattle.once_machine.specs.declared.task.Task.{Task}
use Rattle.once_machine.proofs.Invariant.Moves.{Puts}
use Rattle.once_script.proofs.Part.Left.{left_most}
use Rattle.once_script.proofs.Part.Tells.{is_refused}

-- n fitting steps and what is left make sixteen at most; a call that will be refused met a step without memory
pub record Budget (n : ℕ) (u : Bool) (s : Step ℕ ℕ) : Type 0 where
  pub steps : in_call s ≡ true → n + left_of s ≤ 16
  pub refused : is_refused s ≡ true → u ≡ true

-- one more, by whether a call begins and whether a Go fits
abbrev pub gos_after : Bool → Bool → ℕ → ℕ
gos_after true fits n = 0
gos_after false true n = suc n
gos_after false false n = n

-- whether one was not given memory, by whether a call begins, whether a Go fits and whether it is given none
abbrev pub ungranted_after : Bool → Bool → Bool → Bool → Bool
ungranted_after true fits none u = false
ungranted_after false true true u = true
ungranted_after false _ _ u = u

-- how many Go there are then
pub gos_length : (begins fits : Bool) (i : Input) (g : List Input) → length (cond begins [] (cond fits (i ∷ g) g)) ≡ gos_after begins fits (length g)
gos_length true fits i g = refl
gos_length false true i g = refl
gos_length false false i g = refl

fitted_ungranted : (none all : Bool) → not (cond none false all) ≡ ungranted_after false true none (not all)
fitted_ungranted true all = refl
fitted_ungranted false all = refl

-- and whether one of them was not given memory
pub gos_ungranted : (begins fits : Bool) (i : Input) (g : List Input)
    → not (all_granted (cond begins [] (cond fits (i ∷ g) g))) ≡ ungranted_after begins fits (is_ungranted i) (not (all_granted g))
gos_ungranted true fits i g = refl
gos_ungranted false true i g = fitted_ungranted (is_ungranted i) (all_granted g)
gos_ungranted false false i g = refl

-- the part of one input
pub record HasPart (K : Kind) (w w' : World) (i : Input) : Type 0 where
  pub entries : List Entry
  pub lines : List QueueLine
  pub history_is : w'.history ≡ entries ++ w.history
  pub log_is : w'.log ≡ lines ++ w.log
  pub adds : Adds K i w.history entries
  pub adds_lines : AddsLines K i w.history entries w.log lines
  pub budget : (t n : ℕ) (u : Bool) → Budget n u (step_of (w.tasks t))
      → Budget (gos_after (begins_call t entries) (is_fitting_go K t i w.history) n) (ungranted_after (begins_call t entries) (is_fitting_go K t i w.history) (is_ungranted i) u) (step_of (w'.tasks t))
  pub memory : (t n : ℕ) (u : Bool) → Budget n u (step_of (w.tasks t)) → ends_for_memory t entries ≡ true
      → ungranted_after (begins_call t entries) (is_fitting_go K t i w.history) (is_ungranted i) u ≡ true

-- no call is under way, and none is refused
abbrev IsIdle : Step ℕ ℕ → Type 0
IsIdle s = (in_call s ≡ false) × (is_refused s ≡ false)

-- an idle task keeps within every budget
idle_budget : (n : ℕ) (u : Bool) (s : Step ℕ ℕ) → IsIdle s → Budget n u s
idle_budget n u s i = record { steps = λ e. absurd (false≢true (sym i.0 ∙ e)); refused = λ e. absurd (false≢true (sym i.1 ∙ e)) }

-- an input by which no call begins and no step is made
pub quiet_part : (K : Kind) (w w' : World) (i : Input) (entries : List Entry) (lines : List QueueLine)
    → w'.history ≡ entries ++ w.history → w'.log ≡ lines ++ w.log → Adds K i w.history entries
    → AddsLines K i w.history entries w.log lines
    → ((t : ℕ) → begins_call t entries ≡ false) → ((t : ℕ) → is_fitting_go K t i w.history ≡ false) → ((t : ℕ) → ends_for_memory t entries ≡ false)
    → ((t : ℕ) → (step_of (w'.tasks t) ≡ step_of (w.tasks t)) ⊎ IsIdle (step_of (w'.tasks t))) → HasPart K w w' i
quiet_part K w w' i entries lines h g a l b f m s = record {
  entries = entries;
  lines = lines;
  history_is = h;
  log_is = g;
  adds = a;
  adds_lines = l;
  budget = λ t n u x. rw (b t, f t) (⊎_elim (λ e. rw e x) (λ e. idle_budget n u (step_of (w'.tasks t)) e) (s t));
  memory = λ t n u x e. absurd (false≢true (sym (m t) ∙ e));
}

-- an input that does not fit
pub nothing : (K : Kind) (w : World) (i : Input) → Adds K i w.history [] → AddsLines K i w.history [] w.log []
    → ((t : ℕ) → is_fitting_go K t i w.history ≡ false) → HasPart K w w i
nothing K w i a l f = quiet_part K w w i [] [] refl refl a l (λ t. refl) f (λ t. refl) (λ t. inl refl)

-- a call that just began is within its budget
begun_budget : (s : Step ℕ ℕ) → is_refused s ≡ false → Budget 0 false s
begun_budget s r = record { steps = λ e. let l = left_most s in omega arith; refused = λ e. absurd (false≢true (sym r ∙ e)) }

-- an input by which a call of t begins, y being the task then
pub begin_part : (K : Kind) (w w' : World) (i : Input) (t : ℕ) (y : Task) (entries : List Entry)
    → Puts t y w.tasks w'.tasks → w'.history ≡ entries ++ w.history → w'.log ≡ w.log → Adds K i w.history entries
    → AddsLines K i w.history entries w.log []
    → ((v : ℕ) → begins_call v entries ≡ (t == v)) → ((v : ℕ) → is_fitting_go K v i w.history ≡ false) → ((v : ℕ) → ends_for_memory v entries ≡ false) → is_refused y.step ≡ false → HasPart K w w' i
begin_part K w w' i t y entries p h g a l b f m r = record {
  entries = entries;
  lines = [];
  history_is = h;
  log_is = g;
  adds = a;
  adds_lines = l;
  budget = λ v n u z. ⊎_elim
      (λ e. rw (b v, eq-eqb t v e) (rw (ap w'.tasks (sym e) ∙ p.there) (begun_budget y.step r)))
      (λ d. rw (b v, ne_eqb t v d, f v) (rw (p.others v d) z))
      (cases_eq t v);
  memory = λ v n u z e. absurd (false≢true (sym (m v) ∙ e));
}
