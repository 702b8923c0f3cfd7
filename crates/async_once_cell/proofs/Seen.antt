-- What holds of the whole log holds of what was seen of it.
use Rattle.std.proofs.Common.{◌≡◌, ℕ, true, List, [], ◌∷◌, ◌++◌, reverse, refl, sym, ap, ◌∙◌, subst}
use Rattle.std.proofs.lemmas.Bool.{false≢true}
use Rattle.std.proofs.lemmas.List.{reverse-append}
use mathlib.Core.List.{IsPrefix}
use Rattle.once_machine.specs.Record.{End, Entry, Fill, Once}
use Rattle.once_machine.specs.declared.record.Reply.TheVariants.{Value}
use Rattle.once_machine.specs.Cell.{Cell, Empty, Held, SetTo, cell, is_set}
use Rattle.once_machine.specs.Run.{AtEvery, IsRun}
use Rattle.once_machine.specs.Called.{SomebodyCalled}
use Rattle.once_machine.proofs.Told.Beginnings.{every_of_beginning, run_of_beginning}
use Rattle.once_machine.proofs.Told.Value.{filled, ready_cell, ready_is_set, set_to, stands_back}
use Rattle.once_machine.proofs.Told.Log.{log_is_plain, log_is_run, somebody_called}
use Rattle.once_machine.proofs.Shared.Worlds.{ArePlain}
use Rattle.once_machine.proofs.Law.Crowded.{value_set}
use Rattle.async_once_cell.specs.Kept.{IsKept, Sheet, most, pages_in}
use Rattle.async_once_cell.proofs.Moments.Moves.Words.{some}
use Rattle.async_once_cell.specs.Record.{EndsSet, IsSet, WasFilled}
use Rattle.async_once_cell.proofs.Values.{stays_set}

-- the entries before some are as plain
plain_after : (es h : List Entry) → ArePlain (es ++ h) → ArePlain h
plain_after [] h plain = plain
plain_after (e ∷ es) h plain = plain_after es h plain.1

-- by what is set
set_by : (es h : List Entry) → IsRun Once most (es ++ h) → ArePlain (es ++ h) → (c : Cell) → cell Once h ≡ c → is_set c ≡ true → is_set (cell Once (es ++ h)) ≡ true
set_by es h run plain Empty is set = absurd (false≢true set)
set_by es h run plain (Held t) is set = absurd (false≢true set)
set_by es h run plain (SetTo v) is set = ap is_set (stays_set es h v run plain is)

-- a cell that is set stays so, whatever tasks do
set_on : (es h : List Entry) → IsRun Once most (es ++ h) → ArePlain (es ++ h) → is_set (cell Once h) ≡ true → is_set (cell Once (es ++ h)) ≡ true
set_on es h run plain set = set_by es h run plain (cell Once h) refl set

module _ {ns : List ℕ} {ss : List Sheet} (seen : List Entry) {log : List Entry} (kept : IsKept ns ss log) (pre : IsPrefix seen log) where
  -- it is a run
  pub seen_run : IsRun Once most (reverse seen)
  seen_run = run_of_beginning Once most seen pre.0
      (subst (λ l. IsRun Once most (reverse l)) (sym pre.1) (log_is_run most kept.word kept.has_put kept.slot (pages_in ss) log some kept.book))

  -- and some task was woken whenever one had to be
  pub seen_called : AtEvery (SomebodyCalled Once) (reverse seen)
  seen_called = every_of_beginning (SomebodyCalled Once) seen pre.0
      (subst (λ l. AtEvery (SomebodyCalled Once) (reverse l)) (sym pre.1) (somebody_called most kept.word kept.has_put kept.slot (pages_in ss) log some kept.book))

  -- no entry is of the cell's owner
  seen_plain : ArePlain (reverse seen)
  seen_plain = plain_after (reverse pre.0) (reverse seen)
      (subst ArePlain (reverse-append seen pre.0) (subst (λ l. ArePlain (reverse l)) (sym pre.1) (log_is_plain most kept.word kept.has_put kept.slot (pages_in ss) log some kept.book)))

  -- a cell that was set in a beginning of it is set
  pub seen_set : (older : List Entry) → IsPrefix older seen → IsSet older → IsSet seen
  seen_set older p set =
      let turned : reverse seen ≡ reverse p.0 ++ reverse older = ap reverse (sym p.1) ∙ reverse-append older p.0 in
      subst (λ h. is_set (cell Once h) ≡ true) (sym turned) (set_on (reverse p.0) (reverse older) (subst (IsRun Once most) turned seen_run) (subst ArePlain turned seen_plain) set)

  -- and so it is if a poll ended with the value
  pub seen_answered : (t : ℕ) → EndsSet t seen → IsSet seen
  seen_answered t ends =
      let turned : reverse seen ≡ End t (Value 0) ∷ reverse ends.0 = ap reverse ends.1 ∙ reverse-append ends.0 (End t (Value 0) ∷ []) in
      let before : cell Once (reverse ends.0) ≡ SetTo 0 = value_set Once most t 0 (reverse ends.0) (subst (IsRun Once most) turned seen_run) in
      ap (λ h. is_set (cell Once h)) turned ∙ ap is_set before

  -- if it is set, a Fill stands in it: what is set then is set at the end, and all that tasks set is named 0
  pub seen_filled : IsSet seen → WasFilled seen
  seen_filled set =
      let turned : reverse log ≡ reverse pre.0 ++ reverse seen = ap reverse (sym pre.1) ∙ reverse-append seen pre.0 in
      let run = log_is_run most kept.word kept.has_put kept.slot (pages_in ss) log some kept.book in
      let plain = log_is_plain most kept.word kept.has_put kept.slot (pages_in ss) log some kept.book in
      let to = set_to (cell Once (reverse seen)) set in
      let at_end : cell Once (reverse log) ≡ SetTo to.0 =
      ap (cell Once) turned ∙ stays_set (reverse pre.0) (reverse seen) to.0 (subst (IsRun Once most) turned run) (subst ArePlain turned plain) to.1 in
      let ready = ready_is_set most kept.word kept.has_put kept.slot (pages_in ss) log some kept.book ∙ ap is_set at_end in
      let named : SetTo to.0 ≡ SetTo 0 = sym at_end ∙ ready_cell most kept.word kept.has_put kept.slot (pages_in ss) log some kept.book ready in
      let fill = filled (reverse seen) 0 seen_plain (to.1 ∙ named) in
      (fill.0, fill.1, stands_back (Fill fill.0 0 fill.1) seen fill.2)
