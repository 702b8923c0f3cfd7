-- A task rests with the right exactly if it holds, by the record.
use Rattle.std.proofs.Common.{◌≡◌, ℕ, suc, true, false, Some, List, [], reverse, slice_get, refl, sym, ◌∙◌, subst}
use Rattle.std.specs.Prelude.{◌↔◌}
use Rattle.std.proofs.lemmas.Bool.{false≢true}
use Rattle.std.proofs.lemmas.List.{append-nil}
use Rattle.pagebook.specs.Pages.{Held, Notes}
use Rattle.once_machine.specs.Book.{At, TaskState}
use Rattle.once_machine.specs.Record.{Entry, Once}
use Rattle.once_machine.specs.Steps.{in_call}
use Rattle.once_machine.specs.Tasks.{Fresh, Gone, Holding, Status, Waiting, status}
use Rattle.once_machine.specs.declared.step.Rest.TheVariants.{Run, Start, Wait}
use Rattle.once_machine.specs.declared.step.Step.TheVariants.{Finished, Resting, UnderWay}
use Rattle.once_machine.specs.declared.step.Step.{Step}
use Rattle.once_machine.proofs.Input.Headline.{task_fits}
use Rattle.once_machine.proofs.Invariant.Facts.{AtStep}
use Rattle.once_machine.proofs.Moment.Step.{Moment, moment}
use Rattle.async_once_cell.proofs.Moments.Forms.{page_of}
use Rattle.async_once_cell.proofs.Moments.Moves.Words.{some}
use Rattle.async_once_cell.proofs.TwoTasks.{hand_on}
use Rattle.async_once_cell.specs.Kept.{IsKept, Sheet, entries_of, hand, most, pages_in, sheet, sheets}
use Rattle.async_once_cell.specs.Inner.Own.{IsHand, number_in, task_in}
use Rattle.async_once_cell.specs.Inner.Recalls.{HasRecalled, rests_with_right}

module _ (old log : List Entry) (t : ℕ) (x : TaskState) (ns : List ℕ) (ss : List Sheet) (k : IsKept ns ss log)
    (pen : slice_get ss (suc (suc t)) ≡ Some (sheet (entries_of t old) (At x))) where
  abbrev here : Moment most k.word k.has_put k.slot (pages_in ss) log t x
  here = moment t some k.book (page_of ss (suc (suc t)) (sheet (entries_of t old) (At x)) pen)

  stands_at : (s : Step ℕ ℕ) → x.step ≡ s → AtStep Once most t here.w.shared here.w.history s
  stands_at s at = subst (λ s. AtStep Once most t here.w.shared here.w.history s) at (task_fits Once most t here.w x here.fits here.found).step

  by_record : (s : Status) → status Once t here.w.history ≡ s → status Once t (reverse log) ≡ s
  by_record s is = subst (λ h. status Once t h ≡ s) here.is.log_is is

  holds_not : (s : Step ℕ ℕ) (r : Status) → rests_with_right s ≡ false → status Once t (reverse log) ≡ r → (r ≡ Holding → ⊥)
      → (rests_with_right s ≡ true) ↔ (status Once t (reverse log) ≡ Holding)
  holds_not s r n is other = (λ h. absurd (false≢true (sym n ∙ h)), λ h. absurd (other (sym is ∙ h)))

  recalled : (s : Step ℕ ℕ) → x.step ≡ s → in_call s ≡ false → (rests_with_right s ≡ true) ↔ (status Once t (reverse log) ≡ Holding)
  recalled (Resting (Run by)) at n = (λ h. by_record Holding (stands_at (Resting (Run by)) at).0.0.status_is, λ h. refl)
  recalled (Resting Start) at n = holds_not (Resting Start) Fresh refl (by_record Fresh (stands_at (Resting Start) at).0.status_is) (λ e. cc)
  recalled (Resting (Wait q o)) at n = holds_not (Resting (Wait q o)) Waiting refl (by_record Waiting (stands_at (Resting (Wait q o)) at).0.0.status_is) (λ e. cc)
  recalled (UnderWay p) at n = absurd (false≢true (sym n))
  recalled Finished at n = holds_not Finished Gone refl (by_record Gone (stands_at Finished at).status_is) (λ e. cc)

recalled_by : (old seen : List Entry) (t : ℕ) (x : TaskState) → Notes IsKept (seen, sheets old (hand t x)) (HasRecalled (seen, sheets old (hand t x)))
recalled_by old seen t x = record {
  goes = λ ns ss log k pre a. (
    [],
    [],
    [],
    subst (IsKept ns ss) (sym (append-nil log)) k,
    (
      refl,
      subst (λ l. IsHand l (sheets old (hand t x))) (sym (append-nil log)) (hand_on old log t x ss k.entries_are a.0),
      subst (λ l. in_call x.step ≡ false → (rests_with_right x.step ≡ true) ↔ (status Once t (reverse l) ≡ Holding)) (sym (append-nil log))
          (recalled old log t x ns ss k a.0 x.step refl),
    ),
  );
}

pub recalled_notes : (old seen : List Entry) (h : Held Sheet) → IsHand old h → Notes IsKept (seen, h) (HasRecalled (seen, h))
recalled_notes old seen h is =
    subst (λ (g : Held Sheet). Notes IsKept (seen, g) (HasRecalled (seen, g))) (sym is) (recalled_by old seen (number_in h) (task_in h))
