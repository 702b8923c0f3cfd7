-- The moves that no atomic operation marks, with the pen of the task alone, or with none.
use Rattle.std.proofs.Common.{◌≡◌, ◌⊎◌, ◌-◌, ℕ, zero, suc, pred, Bool, true, cond, inl, inr, ⊎_elim, List, [], ◌∷◌, ◌++◌, length}
use Rattle.std.proofs.Common.{Option, Some, None, reverse, slice_get, slice_set, refl, sym, ap, ◌∙◌, subst, arith}
use Rattle.std.proofs.lemmas.List.{map-append, append-nil}
use Rattle.pagebook.specs.Pages.{Held, Moves, Notes}
use Rattle.once_machine.specs.Word.{flags_of}
use Rattle.once_machine.specs.Table.{after_run, closing_end}
use Rattle.once_machine.specs.Record.{Begin, Entry, Look, Made, Once, Ran}
use Rattle.once_machine.specs.declared.record.Ran.{Ran as Answer}
use Rattle.once_machine.specs.Cell.{cell, is_set}
use Rattle.once_machine.specs.Book.{At, IsBook, IsUnnamed, Page, TaskState}
use Rattle.once_machine.specs.Machine.{drop_entries, fresh_task, is_resting, kept_after, leave_place, polled_of, step_of_drop, step_of_poll}
use Rattle.once_machine.specs.declared.step.Place.TheVariants.{DoorPut as AtDoorPut, List as AtList, Run as AtRun}
use Rattle.once_machine.specs.declared.step.Ending.TheVariants.{Memory as EndMemory}
use Rattle.once_machine.specs.declared.step.Step.TheVariants.{UnderWay}
use Rattle.once_machine.proofs.Moment.Calls.{copy_refused, drop_begun, init_ran, looked, made, poll_begun}
use Rattle.once_machine.proofs.Moment.Doors.{put_refused}
use Rattle.once_machine.proofs.Moment.Step.{told}
use Rattle.once_machine.proofs.Told.Value.{WasFilled, ready_filled, ready_is_set}
use Rattle.async_once_cell.specs.Kept.{Grew, IsKept, IsState, Leaves, Sheet, entries_of, entries_on, hand, most, pages_in, sheet, sheets, writing_sheet}
use Rattle.async_once_cell.proofs.Moments.Forms.{notes, telling_moves}
use Rattle.async_once_cell.proofs.Moments.Mine.{AreOf, drop_of, on_append, one_of, only_hand, only_look, told_of}
use Rattle.once_machine.proofs.Listing.Members.{eqb_self}
use Rattle.async_once_cell.proofs.Moments.Moves.Words.{some}

-- as many pages as sheets
same_length : (ss : List Sheet) → length (pages_in ss) ≡ length ss
same_length [] = refl
same_length (s ∷ ss) = ap suc (same_length ss)

-- there are two pages at least
two_pages : (ps : List Page) (p : Page) → slice_get ps 1 ≡ Some p → length ps ≡ suc (suc (length ps - 2))
two_pages [] p e = let no : ⊥ = cc in absurd no
two_pages (x ∷ []) p e = let no : ⊥ = cc in absurd no
two_pages (x ∷ y ∷ ps) p e = omega arith

-- a page that is there stays when one is added
get_added : {X : Type 0} (xs : List X) (j : ℕ) (x y : X) → slice_get xs j ≡ Some x → slice_get (xs ++ y ∷ []) j ≡ Some x
get_added [] j x y e = let no : ⊥ = cc in absurd no
get_added (z ∷ xs) zero x y e = e
get_added (z ∷ xs) (suc j) x y e = get_added xs j x y e

-- the state of the slot stays when a sheet is added
state_added : (k : ℕ) (slot : Bool) (ss : List Sheet) (s : Sheet) → IsState k slot ss → IsState k slot (ss ++ s ∷ [])
state_added k slot ss s (inl a) = inl a
state_added k slot ss s (inr (inl a)) = inr (inl a)
state_added k slot ss s (inr (inr a)) = inr (inr (a.0, a.1, a.2, a.3, a.4, a.5, get_added ss (suc (suc a.2)) (writing_sheet a.5 a.3) s a.6, a.7))

-- a page of one that was added is one of those before, or that one
added_is : (ss : List Sheet) (s : Sheet) (k : ℕ) (r : Sheet) → slice_get (ss ++ s ∷ []) k ≡ Some r → (slice_get ss k ≡ Some r) ⊎ ((k ≡ length ss) × (r ≡ s))
added_is [] s zero r e = inr (refl, (let same : s ≡ r = cc in sym same))
added_is [] s (suc k) r e = let no : ⊥ = cc in absurd no
added_is (z ∷ ss) s zero r e = inl e
added_is (z ∷ ss) s (suc k) r e = ⊎_elim inl (λ (b : (k ≡ length ss) × (r ≡ s)). inr (ap suc b.0, b.1)) (added_is ss s k r e)

-- there is no page past the end
past : (ss : List Sheet) (k : ℕ) (s : Sheet) → k ≡ length ss → slice_get ss k ≡ Some s → ⊥
past [] k s e at = let no : ⊥ = cc in no
past (z ∷ ss) zero s e at = let no : ⊥ = omega (arith, e) in no
past (z ∷ ss) (suc k) s e at = past ss k s (ap pred e) at

-- a task is made: its pen is given, and its number is that of its page, less the two before those of the tasks
pub made_notes : (seen : List Entry) → Notes IsKept (seen, []) (λ v. (t : ℕ) × (v.1 ≡ sheets v.0 (hand t fresh_task)) × Grew (Made t ∷ []) seen v.0)
made_notes seen = record {
  goes = λ ns ss log k pre a.
      let ps : List Page = pages_in ss in
      let t : ℕ = length ps - 2 in
      let l : length ps ≡ suc (suc t) = two_pages ps _ k.book.1.queue_is in
      let longer : List Entry = log ++ Made t ∷ [] in
      let new : Sheet = sheet (entries_of t longer) (At fresh_task) in
      let place : length ss ≡ suc (suc t) = sym (same_length ss) ∙ l in (
        [],
        new ∷ [],
        Made t ∷ [],
        record {
          word = k.word;
          has_put = k.has_put;
          state = k.state;
          slot = k.slot;
          words_are = k.words_are;
          book = subst (λ qs. IsBook most k.word k.has_put k.slot qs (log ++ Made t ∷ [])) (sym (map-append (λ (s : Sheet). s.page) ss (new ∷ [])))
              (made most k.word k.has_put k.slot ps log some k.book t l);
          state_is = state_added k.state k.slot ss new k.state_is;
          entries_are = λ j s at. ⊎_elim
              (λ old. k.entries_are j s old ∙ sym (append-nil (entries_on j log))
              ∙ ap (λ l. entries_on j log ++ l) (sym (only_hand t fresh_task (Made t ∷ []) (one_of t (Made t) (eqb_self t)) j
              ((λ e. past ss j s (e ∙ sym place) old), tt)))
              ∙ sym (on_append j log (Made t ∷ [])))
              (λ (b : (j ≡ length ss) × (s ≡ new)). ap (λ (s : Sheet). s.entries) b.1 ∙ ap (λ j. entries_on j longer) (sym (b.0 ∙ place)))
              (added_is ss new j s at);
        },
        (t, ap (λ (j : ℕ). (j, new) ∷ []) place, (log, pre, refl)),
      );
}

-- what a look tells: the cell of the log is set exactly if the word is ready, and then a Fill stands in the log
abbrev pub LookTells : ℕ → List Entry → Type 0
LookTells n log = ((flags_of n).ready ≡ is_set (cell Once (reverse log))) × ((flags_of n).ready ≡ true → WasFilled 0 log)

-- a look for the value, with any hand of tasks that do not write
pub looked_moves : (seen : List Entry) (h : Held Page)
    → Moves IsKept (seen, sheets seen h) 0 (λ n. n) (λ n v. LookTells n v.0 × Leaves seen h [] (Look (cond (flags_of n).ready (Some 0) None) ∷ []) v)
looked_moves seen h = telling_moves seen h (λ n. n) (λ n. []) (λ n. Look (cond (flags_of n).ready (Some 0) None) ∷ []) LookTells (λ n. only_look h (cond (flags_of n).ready (Some 0) None))
    (λ n put slot pages log book on.
    let after = looked most n put slot pages log some book in
    let longer : List Entry = log ++ Look (cond (flags_of n).ready (Some 0) None) ∷ [] in
    ((ready_is_set most n put slot pages longer some after, ready_filled most n put slot pages longer some after), after))

module _ (seen : List Entry) (t : ℕ) (x : TaskState) where
  -- t is y now
  own_notes : (y : TaskState) (es : List Entry) → AreOf t es
      → ((n put : ℕ) (slot : Bool) (pages : List Page) (log : List Entry) → IsBook most n put slot pages log → slice_get pages (suc (suc t)) ≡ Some (At x)
      → IsBook most n put slot (slice_set pages (suc (suc t)) (At y)) (log ++ es))
      → Notes IsKept (seen, sheets seen (hand t x)) (λ v. Unit {0} × Leaves seen (hand t x) (At y ∷ []) es v)
  own_notes y es of goes = notes seen (hand t x) (At y ∷ []) es (Unit {0}) (only_hand t x es of) (λ n put slot pages log book on. (tt, goes n put slot pages log book on.0))

  -- a poll begins
  pub begun_notes : is_resting x.step ≡ true
      → Notes IsKept (seen, sheets seen (hand t x)) (λ v. Unit {0} × Leaves seen (hand t x) (At (record x { waker = t; step = step_of_poll x.step }) ∷ []) (Begin t t ∷ []) v)
  begun_notes r = own_notes (record x { waker = t; step = step_of_poll x.step }) (Begin t t ∷ []) (one_of t (Begin t t) (eqb_self t))
      (λ n put slot pages log book pen. poll_begun most n put slot pages log some book t x pen r)

  -- a drop begins
  pub dropped_notes : is_resting x.step ≡ true
      → Notes IsKept (seen, sheets seen (hand t x)) (λ v. Unit {0} × Leaves seen (hand t x) (At (record x { step = step_of_drop x.step }) ∷ []) (reverse (drop_entries t (step_of_drop x.step))) v)
  dropped_notes r = own_notes (record x { step = step_of_drop x.step }) (reverse (drop_entries t (step_of_drop x.step))) (drop_of t (step_of_drop x.step))
      (λ n put slot pages log book pen. drop_begun most n put slot pages log some book t x pen r)

  -- the copy of the waker is refused
  pub copy_notes : (q w : ℕ) (k : Option ℕ) → x.step ≡ UnderWay (AtList q k w)
      → Notes IsKept (seen, sheets seen (hand t x)) (λ v. Unit {0} × Leaves seen (hand t x) (At (record x { step = UnderWay (leave_place q k EndMemory) }) ∷ []) [] v)
  copy_notes q w k at = own_notes (record x { step = UnderWay (leave_place q k EndMemory) }) [] tt
      (λ n put slot pages log book pen. subst (IsBook most n put slot (slice_set pages (suc (suc t)) (At (record x { step = UnderWay (leave_place q k EndMemory) })))) (sym (append-nil log))
      (copy_refused most n put slot pages log some book t x pen q w k at))

  -- AtRun: the init answers
  pub ran_notes : (by : Option ℕ) (a : Answer) → IsUnnamed a → x.step ≡ UnderWay (AtRun by)
      → Notes IsKept (seen, sheets seen (hand t x))
      (λ v. Unit {0} × Leaves seen (hand t x) (At (record x { step = (after_run (polled_of a) by).step; kept = kept_after a x.kept }) ∷ [])
      (told t (kept_after a x.kept) (after_run (polled_of a) by) (Ran t a ∷ [])) v)
  ran_notes by a unnamed at = own_notes (record x { step = (after_run (polled_of a) by).step; kept = kept_after a x.kept }) (told t (kept_after a x.kept) (after_run (polled_of a) by) (Ran t a ∷ []))
      (told_of t (kept_after a x.kept) (after_run (polled_of a) by) (Ran t a ∷ []) (one_of t (Ran t a) (eqb_self t)))
      (λ n put slot pages log book pen. init_ran most n put slot pages log some book t x pen by a unnamed at)

  -- AtDoorPut if memory is refused
  pub unput_notes : x.step ≡ UnderWay AtDoorPut
      → Notes IsKept (seen, sheets seen (hand t x))
      (λ v. Unit {0} × Leaves seen (hand t x) (At (record x { step = (closing_end EndMemory).step }) ∷ []) (told t x.kept (closing_end EndMemory) []) v)
  unput_notes at = own_notes (record x { step = (closing_end EndMemory).step }) (told t x.kept (closing_end EndMemory) []) (told_of t x.kept (closing_end EndMemory) [] tt)
      (λ n put slot pages log book pen. put_refused most n put slot pages log t x some book pen _ _ book.1.door_is at)
