-- The rule of the hall, and what each of its steps tells.
use Rattle.std.specs.Prelude.{◌≡◌, ℕ, suc, ◌+◌, ◌%◌, ◌^◌, true, false, if◌then◌else◌, List, [], ◌∷◌, length, slice_get}
use Rattle.std.specs.declared.option.Option.TheVariants.{Some}
use Rattle.pagebook.specs.Pages.{View, rewritten}
use Rattle.pagebook_uses.specs.declared.hall.Arrival.{Arrival}
use Rattle.pagebook_uses.specs.declared.hall.Page.{Page}
use Rattle.pagebook_uses.specs.declared.hall.Page.TheVariants.{AtDesk, OfVisitor}

-- a page counts if its visitor is inside
abbrev pub counts : Page → ℕ
counts (AtDesk n) = 0
counts (OfVisitor b) = if b then 1 else 0

-- how many visitors are inside
abbrev pub inside : List Page → ℕ
inside [] = 0
inside (p ∷ ps) = counts p + inside ps

-- the rule
pub record IsKept (ns : List ℕ) (ps : List Page) (log : List Arrival) : Type 0 where
  pub words : ns ≡ inside ps % 2 ^ 64 ∷ []  -- the one word counts them, as far as a word can
  -- page 0 is the desk's, and an entry stands for each that came in
  pub desk : slice_get ps 0 ≡ Some (AtDesk (length log))

-- a visitor's page was added, and that visitor is not inside
abbrev pub Arrived : View Arrival Page → ℕ → View Arrival Page → Type 0
Arrived v n w = (k : ℕ) × (w.1 ≡ (k, OfVisitor false) ∷ v.1)

-- the visitor is inside, and the desk counted one more
abbrev pub Entered : Arrival → View Arrival Page → ℕ → View Arrival Page → Type 0
Entered a v n w = w.1 ≡ rewritten (OfVisitor true ∷ AtDesk (suc a.number) ∷ []) v.1

-- the visitor is not inside any more
abbrev pub Left : View Arrival Page → ℕ → View Arrival Page → Type 0
Left v n w = w.1 ≡ rewritten (OfVisitor false ∷ []) v.1

-- all that holds at one moment, with the number in the word and a log that is as long as the desk says
abbrev pub Audited : ℕ → View Arrival Page → ℕ → View Arrival Page → Type 0
Audited x v n w = (w.1 ≡ v.1) × (length w.0 ≡ x) × ((ps : List Page) × IsKept (n ∷ []) ps w.0)
