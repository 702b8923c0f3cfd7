-- A word that is ready means that the value is set: a Fill stands in the log, and the slot is written. And a Fill that stands in the log means that every later word is ready.
use Rattle.std.proofs.Common.{◌≡◌, ◌<◌, ℕ, suc, Bool, true, false, inl, List, [], ◌∷◌, ◌++◌, Option, Some, reverse, slice_get, refl, sym, ap, ◌∙◌, subst}
use Rattle.std.proofs.lemmas.Bool.{false≢true}
use Rattle.std.proofs.lemmas.List.{reverse-append, reverse-reverse, append_assoc}
use Rattle.once_machine.specs.Word.{Flags, flags_of}
use Rattle.once_machine.specs.Record.{Claim, Entry, Fill, Free, Once, Own, is_own}
use Rattle.once_machine.specs.Cell.{Cell, Empty, Held, SetTo, cell, is_set}
use Rattle.once_machine.specs.Values.{IsOneValue}
use Rattle.once_machine.specs.Book.{At, IsBook, Page}
use Rattle.once_machine.specs.Machine.{AtPut, Task, UnderWay}
use Rattle.once_machine.proofs.Moment.Step.{stands}
use Rattle.once_machine.proofs.Shared.Reached.{fits_of, unowned_of}
use Rattle.once_machine.proofs.Shared.Slot.{one_holder}
use Rattle.once_machine.proofs.Shared.Worlds.{ArePlain, IsPlain}
use Rattle.once_machine.proofs.Told.Log.{is_one_value, log_is_plain}

-- such an entry is no owner's call
plain_unowned : (e : Entry) → IsPlain e → is_own e ≡ false
plain_unowned (Own o g) p = absurd p
plain_unowned _ p = refl

-- an entry stands in the list
abbrev pub StandsIn : Entry → List Entry → Type 0
StandsIn e log = (before : List Entry) × (after : List Entry) × (log ≡ before ++ e ∷ after)

-- in a longer one too
stands_on : (e d : Entry) (h : List Entry) → StandsIn e h → StandsIn e (d ∷ h)
stands_on e d h s = (d ∷ s.0, s.1, ap (λ l. d ∷ l) s.2)

-- and in the list turned round
pub stands_back : (e : Entry) (log : List Entry) → StandsIn e (reverse log) → StandsIn e log
stands_back e log s = (
  reverse s.1,
  reverse s.0,
  sym (reverse-reverse log) ∙ ap reverse s.2 ∙ reverse-append s.0 (e ∷ s.1) ∙ ap (λ l. l ++ reverse s.0) (reverse-append (e ∷ []) s.1) ∙ append_assoc (reverse s.1) (e ∷ []) (reverse s.0),
)

-- an empty cell is not set
empty_set : (v : ℕ) → Empty ≡ SetTo v → ⊥
empty_set v e = false≢true (ap is_set e)

-- nor is one that is held
held_set : (t v : ℕ) → Held t ≡ SetTo v → ⊥
held_set t v e = false≢true (ap is_set e)

-- some Fill of this value stands in the list
abbrev pub WasFilled : ℕ → List Entry → Type 0
WasFilled v log = (t : ℕ) × (X : List ℕ) × StandsIn (Fill t v X) log

-- in a longer one too
filled_on : (v : ℕ) (d : Entry) (h : List Entry) → WasFilled v h → WasFilled v (d ∷ h)
filled_on v d h r = (r.0, r.1, stands_on (Fill r.0 v r.1) d h r.2)

-- if a value is set, it was filled in
pub filled : (h : List Entry) (v : ℕ) → ArePlain h → cell Once h ≡ SetTo v → WasFilled v h
filled [] v u s = absurd (empty_set v s)
filled (Claim t ∷ h) v u s = absurd (held_set t v s)
filled (Free t X ∷ h) v u s = absurd (empty_set v s)
filled (Fill t m X ∷ h) v u s = let same : m ≡ v = cc in (t, X, ([], h, ap (λ k. Fill t k X ∷ h) same))
filled (Own o g ∷ h) v u s = absurd u.0
filled (e ∷ h) v u s = filled_on v e h (filled h v u.1 s)

-- a value that was filled in stays
stays_filled : {h : List Entry} (late before : List Entry) (t v : ℕ) (X : List ℕ) → ArePlain h → IsOneValue Once h → h ≡ late ++ Fill t v X ∷ before → cell Once h ≡ SetTo v
stays_filled [] before t v X u o e = ap (cell Once) e
stays_filled (d ∷ late) before t v X u o e =
    let u' : ArePlain (d ∷ late ++ Fill t v X ∷ before) = subst ArePlain e u in
    let o' : IsOneValue Once (d ∷ late ++ Fill t v X ∷ before) = subst (IsOneValue Once) e o in
    ap (cell Once) e ∙ o'.1 (plain_unowned d u'.0) v (stays_filled late before t v X u'.1 o'.2 refl)

-- what a set cell is set to
pub set_to : (c : Cell) → is_set c ≡ true → (v : ℕ) × (c ≡ SetTo v)
set_to (SetTo v) e = (v, refl)
set_to _ e = absurd (false≢true e)

module _ (limit n put : ℕ) (slot : Bool) (pages : List Page) (log : List Entry) (some : 0 < limit) (book : IsBook limit n put slot pages log) where
  -- the ready flag says whether the cell of the log is set
  pub ready_is_set : (flags_of n).ready ≡ is_set (cell Once (reverse log))
  ready_is_set = ap (λ (f : Flags). f.ready) book.1.word_is ∙ (fits_of limit some book.0 book.1.reached).shared.ready_is ∙ ap (λ h. is_set (cell Once h)) book.1.log_is

  -- if the word is ready, the value 0 is set
  pub ready_cell : (flags_of n).ready ≡ true → cell Once (reverse log) ≡ SetTo 0
  ready_cell r =
      let s = set_to (cell Once (reverse log)) (sym ready_is_set ∙ r) in
      let same : book.0.shared.value ≡ s.0 = (fits_of limit some book.0 book.1.reached).shared.value_is s.0 (ap (cell Once) book.1.log_is ∙ s.1) in
      s.1 ∙ ap SetTo (sym same ∙ (unowned_of limit some book.0 book.1.reached).value)

  -- if it is not ready, the cell is not set
  pub unready_cell : (flags_of n).ready ≡ false → is_set (cell Once (reverse log)) ≡ false
  unready_cell r = sym ready_is_set ∙ r

  -- if it is ready, a Fill stands in the log
  pub ready_filled : (flags_of n).ready ≡ true → WasFilled 0 log
  ready_filled r =
      let f = filled (reverse log) 0 (log_is_plain limit n put slot pages log some book) (ready_cell r) in
      (f.0, f.1, stands_back (Fill f.0 0 f.1) log f.2)

  -- if a Fill stands in the log, the word is ready
  pub filled_ready : (t v : ℕ) (X : List ℕ) → StandsIn (Fill t v X) log → (flags_of n).ready ≡ true
  filled_ready t v X s =
      let back : StandsIn (Fill t v X) (reverse log) = stands_back (Fill t v X) (reverse log) (subst (StandsIn (Fill t v X)) (sym (reverse-reverse log)) s) in
      ready_is_set ∙ ap is_set (stays_filled back.0 back.1 t v X (log_is_plain limit n put slot pages log some book) (is_one_value limit n put slot pages log some book) back.2)

  -- if the word is ready, the slot is written
  pub ready_written : (flags_of n).ready ≡ true → slot ≡ true
  ready_written r = book.1.slot_is.1 (inl (ap (λ (f : Flags). f.ready) (sym book.1.word_is) ∙ r))

  -- no two tasks are about to put the value
  pub put_alone : (t u : ℕ) (x y : Task) (by as_by : Option ℕ) → slice_get pages (suc (suc t)) ≡ Some (At x) → slice_get pages (suc (suc u)) ≡ Some (At y)
      → x.step ≡ UnderWay (AtPut by) → y.step ≡ UnderWay (AtPut as_by) → t ≡ u
  put_alone t u x y by as_by pen other at other_at =
      let a = stands t some book pen (AtPut by) at in
      let b = stands u some book other (AtPut as_by) other_at in
      one_holder t u (cell Once book.0.history) a.1.holds_is b.1.holds_is
