-- Small facts on a cell: which task holds it, and which value is set.
use Rattle.std.proofs.Common.{◌≡◌, ◌≢◌, ℕ, Bool, true, false, Option, Some, None, refl, arith}
use Rattle.std.proofs.lemmas.Bool.{false≢true}
use Rattle.std.proofs.lemmas.Bool.Decides.{nat_tests}
use Rattle.once_machine.specs.Cell.{Cell, Empty, Held, SetTo, is_set}
use Rattle.once_machine.proofs.History.Others.{holds}

-- some task holds
abbrev pub is_held : Cell → Bool
is_held (Held t) = true
is_held _ = false

-- the holder of a cell that is held
pub holder_of : (c : Cell) → is_held c ≡ true → (u : ℕ) × (c ≡ Held u)
holder_of (Held u) e = (u, refl)
holder_of _ e = absurd (false≢true e)

-- a task that holds is the holder
pub held_by : (t : ℕ) (c : Cell) → holds t c ≡ true → c ≡ Held t
held_by t (Held u) e = grind (arith, nat_tests)
held_by t _ e = absurd (false≢true e)

-- at most one task holds
pub no_other : (t u : ℕ) (c : Cell) → holds t c ≡ true → t ≢ u → holds u c ≡ false
no_other t u Empty a n = refl
no_other t u (Held k) a n = grind (arith, nat_tests)
no_other t u (SetTo v) a n = refl

-- the value of a cell that is set
pub value_of_set : (c : Cell) → is_set c ≡ true → (v : ℕ) × (c ≡ SetTo v)
value_of_set (SetTo v) e = (v, refl)
value_of_set _ e = absurd (false≢true e)

-- a cell that is neither set nor held is empty
pub empty_cell : (c : Cell) → is_set c ≡ false → is_held c ≡ false → c ≡ Empty
empty_cell Empty e k = refl
empty_cell _ e k = grind arith

-- a cell that a task holds is not set
pub holder_unset : (u : ℕ) (c : Cell) → holds u c ≡ true → is_set c ≡ false
holder_unset u Empty e = refl
holder_unset u (Held t) e = refl
holder_unset u (SetTo v) e = absurd (false≢true e)

-- a cell that is set is free
pub set_free : (c : Cell) → is_set c ≡ true → is_held c ≡ false
set_free (SetTo v) e = refl
set_free Empty e = refl
set_free (Held t) e = grind arith

-- nobody holds a cell that is set
pub set_unheld : (u : ℕ) (c : Cell) → is_set c ≡ true → holds u c ≡ false
set_unheld u (SetTo v) e = refl
set_unheld u Empty e = refl
set_unheld u (Held t) e = grind arith

-- a set cell has one value, a held one one holder, and no two states are one
pub same_value : (v w : ℕ) → ◌≡◌ {A = Cell} (SetTo v) (SetTo w) → v ≡ w
same_value v w e = cc

pub same_holder : (t u : ℕ) → ◌≡◌ {A = Cell} (Held t) (Held u) → t ≡ u
same_holder t u e = cc

pub empty_not_set : (v : ℕ) → ◌≡◌ {A = Cell} Empty (SetTo v) → ⊥
empty_not_set v e = cc

pub held_not_set : (t v : ℕ) → ◌≡◌ {A = Cell} (Held t) (SetTo v) → ⊥
held_not_set t v e = cc

pub held_not_empty : (t : ℕ) → ◌≡◌ {A = Cell} (Held t) Empty → ⊥
held_not_empty t e = cc

-- no queue is not some queue
pub none_some : (q : ℕ) → ◌≡◌ {A = Option ℕ} None (Some q) → ⊥
none_some q e = cc
