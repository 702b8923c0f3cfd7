-- The rule of numbers that are drawn, and what each step tells.
use Rattle.std.specs.Prelude.{◌≡◌, ℕ, ◌<◌, ◌==◌, if◌then◌else◌, List, [], ◌∷◌, slice_get}
use mathlib.Core.Logic.{◌⊎◌}
use Rattle.std.specs.declared.option.Option.TheVariants.{Some}
use Rattle.pagebook.specs.Pages.{Held, View}
use Rattle.pagebook_uses.specs.declared.tickets.page.Drawn.{Drawn}

-- a page with these numbers
abbrev pub drawn : List ℕ → Drawn
drawn xs = record { numbers = xs }

-- each of these numbers is before the next, and belongs to page k
abbrev pub Owned : (ℕ → ℕ) → ℕ → ℕ → List ℕ → Type 0
Owned owner next k [] = Unit {0}
Owned owner next k (x ∷ xs) = (x < next) × ((owner x ≡ k) × Owned owner next k xs)

-- the rule
pub record IsDealt (ns : List ℕ) (ps : List Drawn) : Type 0 where
  pub next : ℕ  -- the number that is drawn next
  pub owner : ℕ → ℕ  -- a number belongs to one page
  pub words : ns ≡ next ∷ []  -- the one word is the next number
  -- a page has no number but its own
  pub pages : (k : ℕ) (p : Drawn) → slice_get ps k ≡ Some p → Owned owner next k p.numbers

-- the numbers on the first page of a hand
abbrev pub numbers_in : Held Drawn → List ℕ
numbers_in [] = []
numbers_in (e ∷ es) = e.1.numbers

-- the hand with one number more on its first page
abbrev pub with_number : ℕ → Held Drawn → Held Drawn
with_number x [] = []
with_number x (e ∷ es) = (e.0, drawn (x ∷ e.1.numbers)) ∷ es

-- a page was added, with no number
abbrev pub Joined : {E : Type 0} → View E Drawn → ℕ → View E Drawn → Type 0
Joined v n w = (k : ℕ) × (w.1 ≡ (k, drawn []) ∷ v.1)

-- nothing changed
abbrev pub Looked : {E : Type 0} → View E Drawn → ℕ → View E Drawn → Type 0
Looked v n w = w.1 ≡ v.1

-- if the number found is x, it was drawn, and else nothing changed
abbrev pub Drew : {E : Type 0} → ℕ → View E Drawn → ℕ → View E Drawn → Type 0
Drew x v n w = w.1 ≡ (if n == x then with_number x v.1 else v.1)

-- x is one of these
abbrev pub Has : ℕ → List ℕ → Type 0
Has x [] = ⊥
Has x (y ∷ ys) = (x ≡ y) ⊎ Has x ys

-- no number is on both lists
abbrev pub NoCommon : List ℕ → List ℕ → Type 0
NoCommon xs ys = (x : ℕ) → Has x xs → Has x ys → ⊥

-- no number is on both of the first two pages of a hand
abbrev pub TwoApart : Held Drawn → Type 0
TwoApart [] = Unit {0}
TwoApart (e ∷ []) = Unit {0}
TwoApart (e ∷ f ∷ es) = NoCommon e.1.numbers f.1.numbers

-- nothing changed, and the two pages in the hand have no number in common
abbrev pub Compared : {E : Type 0} → View E Drawn → ℕ → View E Drawn → Type 0
Compared v n w = TwoApart v.1
