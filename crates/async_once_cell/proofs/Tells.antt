-- From what a move of the book leaves to what it tells of the task.
use Rattle.std.proofs.Common.{◌≡◌, ℕ, List, [], ◌∷◌, ◌++◌, sym, ap, ◌∙◌, subst}
use Rattle.std.proofs.lemmas.List.{append-nil}
use mathlib.Core.List.{IsPrefix}
use Rattle.pagebook.specs.Pages.{Held, Moves, Notes, View}
use Rattle.once_machine.specs.Record.{Entry}
use Rattle.once_machine.specs.Book.{At, TaskState}
use Rattle.async_once_cell.specs.Kept.{Grew, Leaves, Sheet, entries_of, hand, sheets}
use Rattle.async_once_cell.proofs.Moments.Mine.{AreOf, all_of}
use Rattle.async_once_cell.specs.Inner.Own.{IsHand, number_in, task_in}
use Rattle.async_once_cell.specs.Inner.Acts.{Stays, Turns}

module _ {E P : Type 0} (holds : List ℕ → List P → List E → Type 0) (v : View E P) where
  -- what a step tells may be said in other words
  pub moves_tell : (k : ℕ) (f : ℕ → ℕ) (A B : ℕ → View E P → Type 0) → ((n : ℕ) (w : View E P) → A n w → B n w) → Moves holds v k f A → Moves holds v k f B
  moves_tell k f A B so m = record {
    goes = λ ns n ps log h at pre a. let r = m.goes ns n ps log h at pre a in (r.0, r.1, r.2, r.3, so n _ r.4);
  }

  -- the same of a note
  pub notes_tell : (A B : View E P → Type 0) → ((w : View E P) → A w → B w) → Notes holds v A → Notes holds v B
  notes_tell A B so m = record {
    goes = λ ns ps log h pre a. let r = m.goes ns ps log h pre a in (r.0, r.1, r.2, r.3, so _ r.4);
  }

-- a hand that is known to be a task's
hand_is : (log : List Entry) (t : ℕ) (y : TaskState) (h : Held Sheet) → h ≡ sheets log (hand t y) → IsHand log h
hand_is log t y h e = e ∙ ap (λ (g : Held Sheet). sheets log (hand (number_in g) (task_in g))) (sym e)

module _ (seen : List Entry) (t : ℕ) (x : TaskState) where
  -- the page of t turned, by entries of t
  pub leaves_turns : (y : TaskState) (es : List Entry) (w : View Entry Sheet) → AreOf t es → Leaves seen (hand t x) (At y ∷ []) es w → Turns (seen, sheets seen (hand t x)) y es w
  leaves_turns y es w of l = (
    hand_is w.0 t y w.1 l.0,
    record { number = ap number_in l.0; task = ap task_in l.0; log = l.1; mine = l.2.0 ∙ ap (λ m. entries_of t seen ++ m) (all_of t es of) },
  )

  -- a log that grew by nothing
  pub grew_nothing : (log : List Entry) → Grew [] seen log → IsPrefix seen log
  grew_nothing log g = subst (IsPrefix seen) (sym (g.2 ∙ append-nil g.0)) g.1

  -- the page of t stays
  pub leaves_stays : (w : View Entry Sheet) → Leaves seen (hand t x) (At x ∷ []) [] w → Stays (seen, sheets seen (hand t x)) w
  leaves_stays w l = (
    hand_is w.0 t x w.1 l.0,
    record { number = ap number_in l.0; task = ap task_in l.0; log = grew_nothing w.0 l.1; mine = l.2.0 ∙ append-nil (entries_of t seen) },
  )
