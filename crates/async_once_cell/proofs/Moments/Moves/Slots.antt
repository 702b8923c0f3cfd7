-- The moves of the slot's state: the task that is about to put the value writes it by two stores, before the first of which it is not written.
use Rattle.std.proofs.Common.{◌≡◌, ℕ, suc, Bool, true, false, inl, inr, ⊎_elim, List, [], ◌∷◌, ◌++◌, Option, Some, slice_get, slice_set, refl, sym, ap, ◌∙◌, subst}
use Rattle.std.proofs.lemmas.Bool.{cases_eq, false≢true}
use Rattle.std.proofs.lemmas.List.{append-nil, append_assoc}
use mathlib.Core.List.{IsPrefix}
use Rattle.pagebook.specs.Pages.{Held, Moves, Sure}
use Rattle.once_machine.specs.Word.{flags_of}
use Rattle.once_machine.specs.Steps.{release_place}
use Rattle.once_machine.specs.Table.{next_at}
use Rattle.once_machine.specs.Record.{Entry, Fill}
use Rattle.once_machine.specs.Book.{At, IsBook, Page, TaskState}
use Rattle.once_machine.specs.declared.step.Place.TheVariants.{Put as AtPut}
use Rattle.once_machine.specs.declared.step.Ending.TheVariants.{Value as EndValue}
use Rattle.once_machine.specs.declared.step.Step.TheVariants.{UnderWay}
use Rattle.once_machine.proofs.Moment.Calls.{value_put}
use Rattle.once_machine.proofs.Moment.Pages.{set_here, set_other}
use Rattle.once_machine.proofs.Moment.Step.{told}
use Rattle.once_machine.proofs.Told.Value.{StandsIn, WasFilled, filled_ready, put_alone, ready_written}
use Rattle.async_once_cell.specs.Kept.{Grew, IsKept, IsState, Leaves, Sheet, entries_of, entries_on, hand, most, pages_in, sheet, sheets, writing_sheet}
use Rattle.async_once_cell.proofs.Moments.Forms.{apart, page_of, page_put, set_same}
use Rattle.async_once_cell.proofs.Moments.Mine.{on_append, only_hand, told_of}
use Rattle.async_once_cell.proofs.Moments.Moves.Words.{some}

-- a hand whose task writes the slot
abbrev pub writing_hand : List Entry → ℕ → TaskState → Held Sheet
writing_hand log t x = (suc (suc t), writing_sheet (entries_of t log) x) ∷ []

-- the third word
pub state_at : (w put k n : ℕ) (ns : List ℕ) → ns ≡ w ∷ put ∷ k ∷ [] → slice_get ns 2 ≡ Some n → k ≡ n
state_at w put k n ns e at = let same : ◌≡◌ {A = Option ℕ} (Some k) (Some n) = ap (λ xs. slice_get xs 2) (sym e) ∙ at in cc

-- each page has its entries once one is set, if the others have theirs
one_set : (ss : List Sheet) (t : ℕ) (old new : Sheet) (log : List Entry) → slice_get ss (suc (suc t)) ≡ Some old → new.entries ≡ entries_of t log
    → ((j : ℕ) (s : Sheet) → slice_get ss j ≡ Some s → (j ≡ suc (suc t) → ⊥) → s.entries ≡ entries_on j log)
    → (j : ℕ) (s : Sheet) → slice_get (slice_set ss (suc (suc t)) new) j ≡ Some s → s.entries ≡ entries_on j log
one_set ss t old new log there is others j s at = ⊎_elim
    (λ same.
    let now : ◌≡◌ {A = Option Sheet} (Some new) (Some s) = sym (set_here ss (suc (suc t)) old new there) ∙ ap (slice_get (slice_set ss (suc (suc t)) new)) same ∙ at in
    let one : new ≡ s = cc in
    ap (λ (s : Sheet). s.entries) (sym one) ∙ is ∙ ap (λ j. entries_on j log) same)
    (λ n. others j s (sym (set_other ss (suc (suc t)) j new n) ∙ at) (λ i. n (sym i)))
    (cases_eq (suc (suc t)) j)

module _ (seen : List Entry) (t : ℕ) (x : TaskState) (by : Option ℕ) (at : x.step ≡ UnderWay (AtPut by)) where
  -- before the first store the state is 0: a written slot is not written again, and no other task writes it
  blank_by : (n put k : ℕ) (slot : Bool) (ss : List Sheet) (log : List Entry) → IsBook most n put slot (pages_in ss) log → slice_get ss (suc (suc t)) ≡ Some (sheet (entries_of t seen) (At x))
      → IsState k slot ss → k ≡ 0
  blank_by n put k slot ss log book pen (inl s) = s.0
  blank_by n put k slot ss log book pen (inr (inl s)) =
      let a = (value_put most n put slot (pages_in ss) log some book t x (page_of ss (suc (suc t)) (sheet (entries_of t seen) (At x)) pen) by at).0 in
      absurd (false≢true (sym a ∙ s.1))
  blank_by n put k slot ss log book pen (inr (inr s)) =
      let same : t ≡ s.2 = put_alone most n put slot (pages_in ss) log some book t s.2 x s.3 by s.4 (page_of ss (suc (suc t)) (sheet (entries_of t seen) (At x)) pen)
      (page_of ss (suc (suc s.2)) (writing_sheet s.5 s.3) s.6) at s.7 in
      absurd (apart (entries_of t seen) s.5 (At x) s.3 (sym pen ∙ ap (λ (u : ℕ). slice_get ss (suc (suc u))) same ∙ s.6))

  -- the first store, of 1: the machine makes no step
  pub write_moves : Moves IsKept (seen, sheets seen (hand t x)) 2 (λ k. 1)
      (λ k v. (k ≡ 0) × (v.1 ≡ writing_hand v.0 t x) × Grew [] seen v.0 × (entries_of t v.0 ≡ entries_of t seen))
  write_moves = record {
    goes = λ ns n ss log k there pre a.
        let zero : k.state ≡ 0 = blank_by k.word k.has_put k.state k.slot ss log k.book a.0 k.state_is in
        let same : k.state ≡ n = state_at k.word k.has_put k.state n ns k.words_are there in
        let mine : entries_of t (log ++ []) ≡ entries_of t seen = ap (entries_of t) (append-nil log) ∙ sym (k.entries_are (suc (suc t)) (sheet (entries_of t seen) (At x)) a.0) in
        let new : Sheet = writing_sheet (entries_of t (log ++ [])) x in
        let still : pages_in (slice_set ss (suc (suc t)) new) ≡ pages_in ss = page_put ss (suc (suc t)) new
        ∙ set_same (pages_in ss) (suc (suc t)) (At x) (page_of ss (suc (suc t)) (sheet (entries_of t seen) (At x)) a.0) in
        let pen = page_of ss (suc (suc t)) (sheet (entries_of t seen) (At x)) a.0 in
        let unwritten : k.slot ≡ false = (value_put most k.word k.has_put k.slot (pages_in ss) log some k.book t x pen by at).0 in (
          new ∷ [],
          [],
          [],
          record {
            word = k.word;
            has_put = k.has_put;
            state = 1;
            slot = k.slot;
            words_are = ap (λ xs. slice_set xs 2 1) k.words_are;
            book = subst (λ ps. IsBook most k.word k.has_put k.slot ps (log ++ [])) (sym still) (subst (IsBook most k.word k.has_put k.slot (pages_in ss)) (sym (append-nil log)) k.book);
            state_is = inr (inr (refl, unwritten, t, x, by, entries_of t (log ++ []), set_here ss (suc (suc t)) (sheet (entries_of t seen) (At x)) new a.0, at));
            entries_are = one_set ss t (sheet (entries_of t seen) (At x)) new (log ++ []) a.0 refl (λ j s there n. k.entries_are j s there ∙ ap (entries_on j) (sym (append-nil log)));
          },
          (sym same ∙ zero, refl, (log, pre, refl), mine),
        );
  }

  -- the second store, of 2: the value is put
  pub put_value_moves : Moves IsKept (seen, writing_hand seen t x) 2 (λ k. 2)
      (λ k v. Leaves seen (hand t x) (At (record x { step = UnderWay (release_place by EndValue) }) ∷ []) (told t x.kept (next_at (release_place by EndValue)) []) v)
  put_value_moves = record {
    goes = λ ns n ss log k there pre a.
        let y : TaskState = record x { step = UnderWay (release_place by EndValue) } in
        let es : List Entry = told t x.kept (next_at (release_place by EndValue)) [] in
        let old : Sheet = writing_sheet (entries_of t seen) x in
        let pen = page_of ss (suc (suc t)) old a.0 in
        let longer : List Entry = log ++ es in
        let new : Sheet = sheet (entries_of t longer) (At y) in
        let only = only_hand t x es (told_of t x.kept (next_at (release_place by EndValue)) [] tt) in
        let done = (value_put most k.word k.has_put k.slot (pages_in ss) log some k.book t x pen by at).1 in (
          new ∷ [],
          [],
          es,
          record {
            word = k.word;
            has_put = k.has_put;
            state = 2;
            slot = true;
            words_are = ap (λ xs. slice_set xs 2 2) k.words_are;
            book = subst (λ ps. IsBook most k.word k.has_put true ps (log ++ es)) (sym (page_put ss (suc (suc t)) new)) done;
            state_is = inr (inl (refl, refl));
            entries_are = one_set ss t old new longer a.0 refl
                (λ j s there n. k.entries_are j s there ∙ sym (append-nil (entries_on j log)) ∙ ap (λ l. entries_on j log ++ l) (sym (only j (n, tt))) ∙ sym (on_append j log es));
          },
          (refl, (log, pre, refl), (on_append (suc (suc t)) log es ∙ ap (λ l. l ++ entries_of t es) (sym (k.entries_are (suc (suc t)) old a.0)), tt)),
        );
  }

-- what stood in a log stands in a longer one
stood : (e : Entry) (seen log : List Entry) → IsPrefix seen log → StandsIn e seen → StandsIn e log
stood e seen log p s = (s.0, s.1 ++ p.0, sym p.1 ∙ ap (λ l. l ++ p.0) s.2 ∙ append_assoc s.0 (e ∷ s.1) p.0)

-- the state of a slot that is written
pub written_state : (k : ℕ) (slot : Bool) (ss : List Sheet) → slot ≡ true → IsState k slot ss → k ≡ 2
written_state k slot ss w (inl s) = absurd (false≢true (sym s.1 ∙ w))
written_state k slot ss w (inr (inl s)) = s.0
written_state k slot ss w (inr (inr s)) = absurd (false≢true (sym s.1 ∙ w))

-- a task that has seen a Fill knows that the slot is written
pub filled_sure : (seen : List Entry) → WasFilled 0 seen → Sure IsKept seen 2 2
filled_sure seen f = record {
  is = λ ns n ss log k there pre.
      let ps : List Page = pages_in ss in
      let same : k.state ≡ n = state_at k.word k.has_put k.state n ns k.words_are there in
      let ready : (flags_of k.word).ready ≡ true = filled_ready most k.word k.has_put k.slot ps log some k.book f.0 0 f.1 (stood (Fill f.0 0 f.1) seen log pre f.2) in
      sym same ∙ written_state k.state k.slot ss (ready_written most k.word k.has_put k.slot ps log some k.book ready) k.state_is;
}
