-- A new book, the moments at which the value is put and looked for, and what shows that it is there.
use Rattle.std.proofs.Common.{◌≡◌, ℕ, zero, suc, Bool, true, false, inl, List, [], ◌∷◌, ◌++◌, append_assoc, Some, None, reverse, slice_get, refl, sym, ap, ◌∙◌, subst}
use Rattle.std.proofs.lemmas.List.{reverse-append}
use Rattle.pagebook.specs.Pages.{Held, Moves, Sure, View}
use Rattle.once_machine.specs.Word.{flags_of}
use Rattle.once_machine.specs.Record.{End, Entry, Once, Own as OwnersCall, is_own}
use Rattle.once_machine.specs.declared.record.Reply.TheVariants.{Value}
use Rattle.once_machine.specs.Book.{Door, IsBook, Page, Queue, TaskState}
use Rattle.once_machine.specs.Cell.{SetTo, cell, is_set}
use Rattle.once_machine.specs.Run.{IsRun}
use Rattle.once_machine.specs.declared.step.Place.TheVariants.{Put as AtPut}
use Rattle.once_machine.specs.declared.step.Ending.TheVariants.{Value as EndValue}
use Rattle.once_machine.specs.declared.step.Step.{Step}
use Rattle.once_machine.specs.declared.step.Step.TheVariants.{UnderWay}
use Rattle.once_machine.proofs.Moment.Step.{opens}
use Rattle.once_machine.proofs.Law.Rights.{value_lasts}
use Rattle.once_machine.proofs.Shared.Worlds.{ArePlain, IsPlain}
use Rattle.once_machine.proofs.Told.Laws.{value_set_is_answered_answered}
use Rattle.once_machine.proofs.Told.Log.{log_is_plain, log_is_run}
use Rattle.once_machine.proofs.Told.Value.{ready_is_set, ready_written}
use Rattle.async_once_cell.specs.Kept.{IsKept, IsState, Sheet, entries_on, hand, most, pages_in, sheet, sheets}
use Rattle.async_once_cell.proofs.Moments.Mine.{told_of}
use Rattle.once_machine.specs.Steps.{release_place}
use Rattle.once_machine.specs.Table.{next_at, Put, PutValue}
use Rattle.async_once_cell.proofs.Moments.Moves.Words.{some}
use Rattle.async_once_cell.proofs.Moments.Moves.Calls.{looked_moves}
use Rattle.async_once_cell.proofs.Moments.Moves.Slots.{put_value_moves, state_at, write_moves, writing_hand, written_state}
use Rattle.async_once_cell.specs.Inner.Desk.{desk_pages, first_desk}
use Rattle.async_once_cell.specs.Inner.Own.{IsHand, number_in, task_in, told}
use Rattle.async_once_cell.specs.Inner.Acts.{Puts, Turns, Writes}
use Rattle.async_once_cell.specs.Inner.Page.{call_in, next_of}
use Rattle.async_once_cell.specs.Record.{EndsSet, Looks}
use Rattle.async_once_cell.proofs.Tells.{leaves_turns, moves_tell}

-- a page of a new cell has no entries
opens_entries : (k : ℕ) (s : Sheet) → slice_get (desk_pages first_desk) k ≡ Some s → s.entries ≡ entries_on k []
opens_entries zero s e = let same : sheet [] (Door 0 None) ≡ s = cc in ap (λ (s : Sheet). s.entries) (sym same)
opens_entries (suc zero) s e = let same : sheet [] (Queue false []) ≡ s = cc in ap (λ (s : Sheet). s.entries) (sym same)
opens_entries (suc (suc k)) s e = let no : ⊥ = cc in absurd no

-- a new cell
pub opens_kept : IsKept (0 ∷ 0 ∷ 0 ∷ []) (desk_pages first_desk) []
opens_kept = record {
  word = 0;
  has_put = 0;
  state = 0;
  slot = false;
  words_are = refl;
  book = opens most;
  state_is = inl (refl, refl);
  entries_are = opens_entries;
}

-- a look for the value
pub look_keeps : (seen : List Entry) → Moves IsKept (seen, []) 0 (λ n. n) (λ n w. Looks (seen, []) n w)
look_keeps seen = moves_tell IsKept (seen, []) 0 (λ n. n) _ _
    (λ n w r. ((r.1.1.0, r.1.1.1, r.1.1.2, sym r.0.0), r.0.1)) (looked_moves seen [])

module _ (seen : List Entry) (t : ℕ) (x : TaskState) where
  -- the task begins to write the value
  write_by : (s : Step ℕ ℕ) → x.step ≡ s → call_in s ≡ Put → Moves IsKept (seen, sheets seen (hand t x)) 2 (λ _. 1) (λ n w. (n ≡ 0) × Writes (seen, sheets seen (hand t x)) w)
  write_by (UnderWay (AtPut by)) at can = moves_tell IsKept _ 2 (λ _. 1) _ _ (λ n w r. (r.0, (r.1, r.2, r.3))) (write_moves seen t x by at)
  write_by _ at can = let no : ⊥ = cc in absurd no

  -- and has written it
  put_by : (s : Step ℕ ℕ) → x.step ≡ s → call_in s ≡ Put → Moves IsKept (seen, writing_hand seen t x) 2 (λ _. 2)
      (λ n w. Turns (seen, writing_hand seen t x) (record x { step = (next_of s x.waker PutValue).step }) (told t x.kept (next_of s x.waker PutValue) []) w)
  put_by (UnderWay (AtPut by)) at can = moves_tell IsKept _ 2 (λ _. 2) _ _ (λ n w r. leaves_turns seen t x _ _ w (told_of t x.kept (next_at (release_place by EndValue)) [] tt) r)
      (put_value_moves seen t x by at)
  put_by _ at can = let no : ⊥ = cc in absurd no

-- the same of any hand that is a task's
pub write_keeps : (seen : List Entry) (h : Held Sheet) → IsHand seen h → call_in (task_in h).step ≡ Put → Moves IsKept (seen, h) 2 (λ _. 1) (λ n w. (n ≡ 0) × Writes (seen, h) w)
write_keeps seen h is can = subst (λ g. Moves IsKept (seen, g) 2 (λ _. 1) (λ n w. (n ≡ 0) × Writes (seen, g) w)) (sym is) (write_by seen (number_in h) (task_in h) (task_in h).step refl can)

-- after it began to write
pub put_keeps : (v w : View Entry Sheet) → call_in (task_in v.1).step ≡ Put → Writes v w → Moves IsKept w 2 (λ _. 2) (λ n u. Puts w u)
put_keeps v w can wrote =
    subst (λ g. Moves IsKept (w.0, g) 2 (λ _. 2) (λ n u. Puts (w.0, g) u)) (sym wrote.0) (put_by w.0 (number_in v.1) (task_in v.1) (task_in v.1).step refl can)

-- the state of a slot that is written, as the third word says it
written_is : (k n : ℕ) (slot : Bool) (ns : List ℕ) (ss : List Sheet) (w put : ℕ) → slot ≡ true → ns ≡ w ∷ put ∷ k ∷ [] → slice_get ns 2 ≡ Some n → IsState k slot ss → n ≡ 2
written_is k n slot ns ss w put full is there state =
    let same : k ≡ n = state_at w put k n ns is there in
    sym same ∙ written_state k slot ss full state

-- an entry of tasks that share a cell is no owner's call
shared_entry : (e : Entry) → IsPlain e → is_own e ≡ false
shared_entry (OwnersCall o g) p = absurd p
shared_entry _ p = refl

-- a value that is set stays set, whatever tasks do
pub stays_set : (es h : List Entry) (v : ℕ) → IsRun Once most (es ++ h) → ArePlain (es ++ h) → cell Once h ≡ SetTo v → cell Once (es ++ h) ≡ SetTo v
stays_set [] h v run plain s = s
stays_set (e ∷ es) h v run plain s = value_lasts Once most e (es ++ h) v run (shared_entry e plain.0) (stays_set es h v run.1 plain.1 s)

-- if a poll ended with the value, the cell of every later log is set
ended_set : (n put : ℕ) (slot : Bool) (pages : List Page) (log : List Entry) → IsBook most n put slot pages log
    → (t : ℕ) (seen late : List Entry) → EndsSet t seen → seen ++ late ≡ log → cell Once (reverse log) ≡ SetTo 0
ended_set n put slot pages log book t seen late ends e =
    let rest : List Entry = End t (Value 0) ∷ late in
    let is : log ≡ ends.0 ++ rest = sym e ∙ ap (λ l. l ++ late) ends.1 ∙ append_assoc ends.0 (End t (Value 0) ∷ []) late in
    let turned : reverse log ≡ reverse rest ++ reverse ends.0 = ap reverse is ∙ reverse-append ends.0 rest in
    let set : cell Once (reverse ends.0) ≡ SetTo 0 = value_set_is_answered_answered most n put slot pages log some book ends.0 late t 0 is in
    ap (cell Once) turned
    ∙ stays_set (reverse rest) (reverse ends.0) 0 (subst (IsRun Once most) turned (log_is_run most n put slot pages log some book))
    (subst ArePlain turned (log_is_plain most n put slot pages log some book)) set

-- so a task that saw a poll end with the value knows that the slot is written
pub ended_sure : (t : ℕ) (seen : List Entry) → EndsSet t seen → Sure IsKept seen 2 2
ended_sure t seen ends = record {
  is = λ ns n ss log k there pre.
      let set = ended_set k.word k.has_put k.slot (pages_in ss) log k.book t seen pre.0 ends pre.1 in
      let ready : (flags_of k.word).ready ≡ true = ready_is_set most k.word k.has_put k.slot (pages_in ss) log some k.book ∙ ap is_set set in
      written_is k.state n k.slot ns ss k.word k.has_put (ready_written most k.word k.has_put k.slot (pages_in ss) log some k.book ready) k.words_are there k.state_is;
}
