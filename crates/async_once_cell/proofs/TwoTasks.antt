-- A hand is right whatever its task learns, and no hand has two pens of one page, so two hands of one book are of two tasks.
use Rattle.std.proofs.Common.{◌≡◌, ℕ, suc, Some, List, [], ◌∷◌, ◌++◌, slice_get, refl, sym, ap, ◌∙◌, subst}
use Rattle.std.proofs.lemmas.List.{append-nil}
use Rattle.pagebook.specs.Pages.{Held, Notes}
use Rattle.once_machine.specs.Record.{Entry}
use Rattle.once_machine.specs.Book.{At, TaskState}
use Rattle.async_once_cell.specs.Kept.{IsKept, Sheet, entries_of, entries_on, hand, sheet, sheets}
use Rattle.async_once_cell.specs.Inner.Own.{IsHand, number_in, task_in}
use Rattle.async_once_cell.specs.Inner.TwoTasks.{AreTwo, HasLearned}

-- the page has the entries of its task, so the log has none besides
pub hand_on : (old log : List Entry) (t : ℕ) (x : TaskState) (ss : List Sheet) → ((k : ℕ) (s : Sheet) → slice_get ss k ≡ Some s → s.entries ≡ entries_on k log)
    → slice_get ss (suc (suc t)) ≡ Some (sheet (entries_of t old) (At x)) → IsHand log (sheets old (hand t x))
hand_on old log t x ss are there = ap (λ (es : List Entry). (suc (suc t), sheet es (At x)) ∷ []) (are (suc (suc t)) (sheet (entries_of t old) (At x)) there)

-- the entries of the first task of a hand, as its page has them
abbrev entries_in : Held Sheet → List Entry
entries_in [] = []
entries_in (e ∷ h) = e.1.entries

-- so the log had no entry of the task that was not seen
pub same_entries : (old log : List Entry) (h : Held Sheet) → IsHand old h → IsHand log h → entries_of (number_in h) log ≡ entries_of (number_in h) old
same_entries old log h before after = sym (ap entries_in after) ∙ ap entries_in before

-- a task looks at what it has learned
learned_by : (old seen : List Entry) (t : ℕ) (x : TaskState) → Notes IsKept (seen, sheets old (hand t x)) (HasLearned (seen, sheets old (hand t x)))
learned_by old seen t x = record {
  goes = λ ns ss log k pre a. (
    [],
    [],
    [],
    subst (IsKept ns ss) (sym (append-nil log)) k,
    (refl, subst (λ l. IsHand l (sheets old (hand t x))) (sym (append-nil log)) (hand_on old log t x ss k.entries_are a.0)),
  );
}

-- by its hand
pub learned_notes : (old seen : List Entry) (h : Held Sheet) → IsHand old h → Notes IsKept (seen, h) (HasLearned (seen, h))
learned_notes old seen h is = subst (λ (g : Held Sheet). Notes IsKept (seen, g) (HasLearned (seen, g))) (sym is) (learned_by old seen (number_in h) (task_in h))

-- of two tasks
two_notes : (one other seen : List Entry) (t u : ℕ) (x y : TaskState)
    → Notes IsKept (seen, sheets one (hand t x) ++ sheets other (hand u y)) (AreTwo (seen, sheets one (hand t x) ++ sheets other (hand u y)))
two_notes one other seen t u x y = record {
  goes = λ ns ss log k pre a. (
    [],
    [],
    [],
    subst (IsKept ns ss) (sym (append-nil log)) k,
    (
      refl,
      λ same. a.1.0.0 (ap (λ n. suc (suc n)) same),
      subst (λ l. IsHand l (sheets one (hand t x))) (sym (append-nil log)) (hand_on one log t x ss k.entries_are a.0),
    ),
  );
}

-- of two hands
pub apart_notes : (one other seen : List Entry) (h k : Held Sheet) → IsHand one h → IsHand other k → Notes IsKept (seen, h ++ k) (AreTwo (seen, h ++ k))
apart_notes one other seen h k is its =
    subst (λ (g : Held Sheet). Notes IsKept (seen, g) (AreTwo (seen, g))) (λ i. sym is i ++ sym its i)
    (two_notes one other seen (number_in h) (number_in k) (task_in h) (task_in k))
