-- Until the owner replaces a cell it is filled once at most: a fill finds the cell held, and it stays set after it.
use Rattle.std.proofs.Common.{◌≡◌, ◌≤◌, ◌+◌, ℕ, List, [], ◌∷◌, refl, sym, subst, arith}
use native.Mathlib.Numerals.{unary_clauses}
use Rattle.once_machine.specs.Record.{Claim, Entry, Fill, Free, Kind, Lazy, LazyWith, Once, OnceWith, Own, Parts, ReplaceAnswers, ReplaceValue, Take, Write}
use Rattle.once_machine.specs.Cell.{Cell, Empty, Held, SetTo, cell, write_cell}
use Rattle.once_machine.specs.Fills.{times_filled}
use Rattle.once_machine.specs.Run.{IsLegal, IsRun}

-- how often it may have been filled, by what it is
abbrev MayBeFilled : Cell → ℕ → Type 0
MayBeFilled (SetTo v) n = n ≤ 1
MayBeFilled _ n = n ≡ 0

filled_at_most : (n : ℕ) (c : Cell) → MayBeFilled c n → n ≤ 1
filled_at_most n (SetTo v) b = b
filled_at_most n Empty b = omega arith
filled_at_most n (Held t) b = omega arith

-- a write fills nothing
write_filled : (v n : ℕ) (c : Cell) → MayBeFilled c n → MayBeFilled (write_cell v c) n
write_filled v n (SetTo u) b = b
write_filled v n Empty b = b
write_filled v n (Held t) b = b

-- an entry that fills nothing adds nothing
pub nothing_added : (n : ℕ) → 0 + n ≡ n
nothing_added n = omega arith

still_filled : (c : Cell) (n : ℕ) → MayBeFilled c n → MayBeFilled c (0 + n)
still_filled c n b = subst (λ k. MayBeFilled c k) (sym (nothing_added n)) b

new_cell : (K : Kind) → MayBeFilled (cell K []) 0
new_cell Once = refl
new_cell (OnceWith v) = omega arith
new_cell (Lazy l) = refl
new_cell (LazyWith v) = omega arith

module _ (K : Kind) (limit : ℕ) where
  filled_after : (e : Entry) (h : List Entry) → IsLegal K limit e h → MayBeFilled (cell K h) (times_filled h) → MayBeFilled (cell K (e ∷ h)) (times_filled (e ∷ h))
  filled_after (Claim t) h l b = still_filled (Held t) (times_filled h) (subst (λ c. MayBeFilled c (times_filled h)) l.0 b)
  filled_after (Free t X) h l b = still_filled Empty (times_filled h) (subst (λ c. MayBeFilled c (times_filled h)) l.0 b)
  filled_after (Fill t v X) h l b = let none : times_filled h ≡ 0 = subst (λ c. MayBeFilled c (times_filled h)) l.0 b in omega arith
  filled_after (Own Take g) h l b = refl
  filled_after (Own (Write v) g) h l b = still_filled (write_cell v (cell K h)) (times_filled h) (write_filled v (times_filled h) (cell K h) b)
  filled_after (Own Parts g) h l b = refl
  filled_after (Own (ReplaceValue v) g) h l b = omega arith
  filled_after (Own (ReplaceAnswers k) g) h l b = refl
  filled_after e h l b = still_filled (cell K h) (times_filled h) b

  filled_by_cell : (h : List Entry) → IsRun K limit h → MayBeFilled (cell K h) (times_filled h)
  filled_by_cell (e ∷ h) r = filled_after e h r.0 (filled_by_cell h r.1)
  filled_by_cell [] r = new_cell K

pub filled_once : (K : Kind) (limit : ℕ) (h : List Entry) → IsRun K limit h → times_filled h ≤ 1
filled_once K limit h r = filled_at_most (times_filled h) (cell K h) (filled_by_cell K limit h r)
