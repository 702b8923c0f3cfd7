-- The tasks of a row, one by one.
use Rattle.std.proofs.Common.{◌≡◌, ℕ, false, ◌==◌, ⊎_elim, List, sym, ap, ◌∙◌, subst}
use Rattle.std.proofs.lemmas.Bool.{false≢true, cases_Bool, eqb-true}
use Rattle.once_machine.specs.Record.{Entry, Kind}
use Rattle.once_machine.specs.Tasks.{Status, Waiting, is_under_way, status}
use Rattle.once_machine.specs.Crowd.{is_waiting}
use Rattle.once_machine.specs.Called.{IsCalled}

-- the first task, the second and any other
pub by_two : (P : ℕ → Type 0) → P 1 → P 2 → ((t : ℕ) → (1 == t) ≡ false → (2 == t) ≡ false → P t) → (t : ℕ) → P t
by_two P a b c t = ⊎_elim (λ e. subst P (eqb-true 1 t e) a) (λ n. ⊎_elim (λ e. subst P (eqb-true 2 t e) b) (λ m. c t n m) (cases_Bool (2 == t))) (cases_Bool (1 == t))

-- the same with the third
pub by_three : (P : ℕ → Type 0) → P 1 → P 2 → P 3 → ((t : ℕ) → (1 == t) ≡ false → (2 == t) ≡ false → (3 == t) ≡ false → P t) → (t : ℕ) → P t
by_three P a b c d t = by_two P a b (λ u n m. ⊎_elim (λ e. subst P (eqb-true 3 u e) c) (λ k. d u n m k) (cases_Bool (3 == u))) t

-- a task with another status does not wait
pub not_waiting : (K : Kind) (t : ℕ) (h : List Entry) (s : Status) → status K t h ≡ s → is_waiting s ≡ false → status K t h ≡ Waiting → ⊥
not_waiting K t h s e n w = false≢true (sym n ∙ ap is_waiting (sym e ∙ w))

-- a task that neither waits nor is in a poll or a drop does not count as woken
pub not_called : (K : Kind) (t : ℕ) (h : List Entry) (s : Status) → status K t h ≡ s → is_waiting s ≡ false → is_under_way s ≡ false → IsCalled K t h → ⊥
not_called K t h s e n u k = ⊎_elim (not_waiting K t h s e n) (λ r. false≢true (sym u ∙ ap is_under_way (sym e) ∙ r.under_way)) k.0
