-- A task enters no queue but the first.
use Rattle.std.proofs.Common.{◌≡◌, ◌<◌, ℕ, suc, Bool, false, ⊎_elim, List, Some, slice_get, sym, ap, ◌∙◌}
use Rattle.std.proofs.lemmas.Bool.{false≢true}
use Rattle.once_machine.specs.Word.{Flags, flags_of}
use Rattle.once_machine.specs.Record.{Entry}
use Rattle.once_machine.specs.Book.{At, IsBook, Page}
use Rattle.once_machine.specs.Machine.{AtCountIn, Task, UnderWay}
use Rattle.once_machine.proofs.Moment.Step.{Moment, moment, stands}
use Rattle.once_machine.proofs.Shared.Queue.{EntersFirst, door_first}
use Rattle.once_machine.proofs.Shared.Worlds.{enters_of}

module _ (limit n put : ℕ) (slot : Bool) (pages : List Page) (log : List Entry) (t : ℕ) (x : Task) (some : 0 < limit)
    (book : IsBook limit n put slot pages log) (pen : slice_get pages (suc (suc t)) ≡ Some (At x)) where
  -- by its place
  pub enters_first : EntersFirst x.step
  enters_first = let m : Moment limit n put slot pages log t x = moment t some book pen in enters_of t m.unowned m.found

  -- one that counts itself in before the value is set will enter the first too
  pub counts_in_first : (q : ℕ) → x.step ≡ UnderWay (AtCountIn q) → (flags_of n).ready ≡ false → q ≡ 1
  counts_in_first q at r =
      let m : Moment limit n put slot pages log t x = moment t some book pen in
      let u : m.w.shared.ready ≡ false = ap (λ (f : Flags). f.ready) (sym book.1.word_is) ∙ r in
      ⊎_elim (λ d. door_first m.w.shared q m.unowned.queue u d) (λ e. absurd (false≢true (sym u ∙ e)))
      (stands t some book pen (AtCountIn q) at).1
