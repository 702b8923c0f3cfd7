-- The answers of an init, as text.
use Rattle.std.specs.Prelude.{ℕ, List, [], ◌∷◌, ◌++◌, ◌≡◌, ◌==◌, codes, Option, Some, None}
use Rattle.std.specs.List.{slice_split}
use Rattle.once_machine.specs.declared.record.Ran.{Ran}
use Rattle.once_machine.specs.declared.record.Ran.TheVariants.{Pending, Value, Error}
use Rattle.once_script.specs.Number.{number_of}

-- a text is this answer
abbrev pub IsAnswer : Ran → List ℕ → Type 0
IsAnswer Pending text = text ≡ codes "p"
IsAnswer (Value value) text = (digits : List ℕ) × (text ≡ codes "v" ++ digits) × (number_of digits ≡ Some value)
IsAnswer (Error error) text = (digits : List ℕ) × (text ≡ codes "e" ++ digits) × (number_of digits ≡ Some error)

-- a text is this answer of a list; None stands for pending
abbrev pub IsListed : Option ℕ → List ℕ → Type 0
IsListed None text = IsAnswer Pending text
IsListed (Some value) text = IsAnswer (Value value) text

-- each of these fields is the answer at its place
abbrev pub AreListed : List (Option ℕ) → List (List ℕ) → Type 0
AreListed [] [] = Unit
AreListed [] (field ∷ fields) = ⊥
AreListed (answer ∷ answers) [] = ⊥
AreListed (answer ∷ answers) (field ∷ fields) = IsListed answer field × AreListed answers fields

-- a text is these answers, parted by one space each
abbrev pub AreAnswers : List (Option ℕ) → List ℕ → Type 0
AreAnswers answers text = AreListed answers (slice_split (λ c. c == 32) text)
