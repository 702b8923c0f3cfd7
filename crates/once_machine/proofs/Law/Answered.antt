-- A poll that begins when the value is set answers it without running its init. From the run alone.
use Rattle.std.proofs.Common.{◌≡◌, ◌==◌, ℕ, Bool, true, false, inl, inr, List, [], ◌∷◌, Option, None, refl, sym, ap, ◌∙◌, subst, arith}
use Rattle.std.proofs.lemmas.Grind.{common_steps}
use Rattle.std.proofs.lemmas.Bool.{false≢true}
use Rattle.std.proofs.lemmas.Bool.Decides.{nat_tests}
use Rattle.once_machine.specs.Record.{Answer, Begin, End, Entry, Error, Full, Kind, Memory, Own, Pending, Reply, Value, is_of, is_own}
use Rattle.once_machine.specs.Cell.{Cell, Empty, Held, SetTo, cell, got, is_set}
use Rattle.once_machine.specs.Tasks.{Fresh, Polling, Status, Unmade, Waiting, all_gone, last_call, last_call_after, pending_status, status, status_after}
use Rattle.once_machine.specs.Refusals.{MemoryFrom, OtherHolds, Since, is_begin_of}
use Rattle.once_machine.specs.Run.{IsLegal, IsRun, MayEnd}
use Rattle.once_machine.proofs.History.Others.{set_stays_after}
use Rattle.once_machine.proofs.History.Cells.{value_of_set}
use Rattle.once_machine.proofs.Law.Rights.{live}

-- a poll that began when the cell was set
record SetPoll (K : Kind) (t : ℕ) (h : List Entry) : Type 0 where
  set : is_set (cell K h) ≡ true
  unran : (last_call K t h).ran ≡ None
  unheld : Since t (OtherHolds K t) h → ⊥

-- a set cell is not empty
set_not_empty : (c : Cell) → is_set c ≡ true → c ≡ Empty → ⊥
set_not_empty c a b = false≢true (sym (ap is_set b) ∙ a)

-- and not held
set_not_held : (c : Cell) (u : ℕ) → is_set c ≡ true → c ≡ Held u → ⊥
set_not_held c u a b = false≢true (sym (ap is_set b) ∙ a)

-- a set cell stays set while a task is about
set_kept : (K : Kind) (limit : ℕ) (e : Entry) (h : List Entry) → IsLegal K limit e h → (all_gone K h ≡ true → ⊥)
    → is_set (cell K h) ≡ true → {b : Bool} → is_own e ≡ b → is_set (cell K (e ∷ h)) ≡ true
set_kept K limit e h l g s {b = false} n = let v = value_of_set (cell K h) s in ap is_set (set_stays_after K e limit h v.0 n l v.1)
set_kept K limit (Own o got) h l g s {b = true} n = absurd (g l.0)
set_kept K limit _ h l g s {b = true} n = absurd (false≢true n)

-- such a poll sees the cell set
abbrev SetSo : Kind → ℕ → List Entry → Type 0
SetSo K t h = status K t h ≡ Polling → (last_call K t h).set_then ≡ true → SetPoll K t h

-- a poll that ended is over
pub pending_polls : (u : ℕ) (c : Cell) → pending_status u c ≡ Polling → ⊥
pending_polls u (Held k) e = grind (arith, nat_tests)
pending_polls u _ e = grind arith

-- nobody else held since it began
begun_unheld : (K : Kind) (t u w : ℕ) (h : List Entry) → (u == t) ≡ true → is_set (cell K h) ≡ true → Since t (OtherHolds K t) (Begin u w ∷ h) → ⊥
begun_unheld K t u w h n set (inl o) = set_not_held (cell K h) o.0 set o.2
begun_unheld K t u w h n set (inr s) = let none : ⊥ = rw n at s in none

-- and nobody does while the cell is set
still_unheld : (K : Kind) (t : ℕ) (e : Entry) (h : List Entry) → is_set (cell K (e ∷ h)) ≡ true → (b : Bool) → is_begin_of t e ≡ b
    → (Since t (OtherHolds K t) h → ⊥) → Since t (OtherHolds K t) (e ∷ h) → ⊥
still_unheld K t e h set b n none (inl o) = set_not_held (cell K (e ∷ h)) o.0 set o.2
still_unheld K t e h set true n none (inr s) = let no : ⊥ = rw n at s in no
still_unheld K t e h set false n none (inr s) = none (rw n at s)

not_unmade_polling : Polling ≡ Unmade → ⊥
not_unmade_polling e = cc

-- it is not refused memory
not_memory : (K : Kind) (t : ℕ) (h : List Entry) → (last_call K t h).set_then ≡ true → (Since t (OtherHolds K t) h → ⊥) → (s : Status) → MemoryFrom K s t h → ⊥
not_memory K t h set unheld Fresh m = false≢true (sym m.0 ∙ set)
not_memory K t h set unheld Waiting m = unheld m
not_memory K t h set unheld _ m = m

module _ (K : Kind) (limit t : ℕ) where
  -- of its own entries it can have made its beginning alone
  own_set : (e : Entry) (h : List Entry) → is_of t e ≡ true → IsLegal K limit e h
      → SetSo K t h → status_after e (cell K h) (status K t h) ≡ Polling
      → (last_call_after e (cell K h) (status K t h) (last_call K t h)).set_then ≡ true
      → (is_set (cell K (e ∷ h)) ≡ true) × ((last_call_after e (cell K h) (status K t h) (last_call K t h)).ran ≡ None)
      × (Since t (OtherHolds K t) (e ∷ h) → ⊥)
  own_set (Begin u w) h n l ih s x = (x, refl, begun_unheld K t u w h n x)
  own_set (End u Pending) h n l ih s x = absurd (pending_polls u (cell K h) s)
  own_set e h n l ih s x = grind (arith, nat_tests, common_steps, ih)

  -- its entries and those of others keep it so
  set_by : (e : Entry) (h : List Entry) (b : Bool) → is_of t e ≡ b → IsRun K limit (e ∷ h) → SetSo K t h → SetSo K t (e ∷ h)
  set_by e h true is r ih s x =
      let k = own_set e h is r.0 ih (rw is at s) (rw is at x) in
      record { set = k.0; unran = rw is k.1; unheld = k.2 }
  set_by e h false is r ih s x =
      let s' : status K t h ≡ Polling = rw is at s in
      let k = ih s' (rw is at x) in
      let set = set_kept K limit e h r.0 (live K limit t h r.1 s' refl not_unmade_polling) k.set refl in
      record { set = set; unran = rw is k.unran; unheld = still_unheld K t e h set (is_begin_of t e) refl k.unheld }

  -- in every run
  set_poll : (h : List Entry) → IsRun K limit h → SetSo K t h
  set_poll [] r s x = grind arith
  set_poll (e ∷ h) r s x = set_by e h (is_of t e) refl r (set_poll h r.1) s x

  -- it ends with the value
  set_end : (r : Reply) (h : List Entry) (v : ℕ) → cell K h ≡ SetTo v
      → (last_call K t h).set_then ≡ true → (Since t (OtherHolds K t) h → ⊥) → MayEnd K limit t r None h → r ≡ Value v
  set_end (Value u) h v c x n m = let k : u ≡ v = let z : SetTo u ≡ SetTo v = sym m ∙ c in cc in ap (λ n. Value n) k
  set_end Pending h v c x n m = absurd (set_not_held (cell K h) m.0 (ap is_set c) m.2)
  set_end (Error e) h v c x n m = absurd m
  set_end Memory h v c x n m = absurd (not_memory K t h x n (last_call K t h).began m.1)
  set_end Full h v c x n m = absurd (false≢true (sym m.3 ∙ ap is_set c))

  -- a poll that begins when the value is set answers it without running its init
  pub set_answered : (r : Reply) (h : List Entry) → IsRun K limit (End t r ∷ h)
      → (last_call K t h).set_then ≡ true
      → ((last_call K t h).ran ≡ None) × ((v : ℕ) × (cell K h ≡ SetTo v) × (r ≡ Value v))
  set_answered r h run x =
      let k = set_poll h run.1 run.0.0 x in
      let v = value_of_set (cell K h) k.set in
      let P : Option Answer → Type 0 = λ a. MayEnd K limit t r a h in
      (k.unran, (v.0, v.1, set_end r h v.0 v.1 x k.unheld (subst P k.unran run.0.1)))
