-- The lines of a script: when a text is one, and which line of another is the first that is none.
use Rattle.std.specs.Prelude.{ℕ, suc, ◌⊎◌, Bool, List, [], ◌∷◌, ◌≡◌, ◌==◌, ◌-◌, length, take, drop, map, if◌then◌else◌}
use Rattle.std.specs.Borrow.{Bor}
use Rattle.std.specs.List.{slice_split}
use lib.Pointwise.{pointwise}
use Rattle.once_machine.specs.declared.record.Kind.{Kind}
use Rattle.once_script.specs.declared.parse.Line.{Line}
use Rattle.once_script.specs.Text.{IsLine, IsOpening}

-- a text ends with a line feed
abbrev pub ends_with_feed : List ℕ → Bool
ends_with_feed text = pointwise (λ a b. a == b) (drop (length text - 1) text) (10 ∷ [])

-- a text without the line feed at its end, if it has one
abbrev pub without_last_feed : List ℕ → List ℕ
without_last_feed text = if ends_with_feed text then take (length text - 1) text else text

-- the lines of a text, without their ends; the last may lack its line feed
abbrev pub lines_in : List ℕ → List (List ℕ)
lines_in text = slice_split (λ c. c == 10) (without_last_feed text)

-- the bytes of each of these slices
abbrev pub texts_of : List (Bor (List ℕ)) → List (List ℕ)
texts_of lines = map (λ line. line.now) lines

-- these texts are these lines, one each, in their order
abbrev pub AreLines : List (List ℕ) → List Line → Type 0
AreLines [] lines = lines ≡ []
AreLines (text ∷ texts) lines =
    (line : Line) × (later : List Line) × IsLine line text × (lines ≡ line ∷ later) × AreLines texts later

-- the lines of a script: the first says the kind and how many tasks may be counted in, and these come after it
abbrev pub IsScript : Kind → ℕ → List Line → List (List ℕ) → Type 0
IsScript kind limit lines [] = ⊥
IsScript kind limit lines (first ∷ later) = IsOpening kind limit first × AreLines later lines

-- of these texts, the first of which has the number at, the one with this number is the first that is no line
abbrev pub IsStop : (at number : ℕ) → List (List ℕ) → Type 0
IsStop at number [] = ⊥
IsStop at number (text ∷ texts) =
    ((number ≡ at) × ((line : Line) → ¬ IsLine line text))
    ⊎ (((line : Line) × IsLine line text) × IsStop (suc at) number texts)

-- the line of a script with this number is the first that cannot be read
abbrev pub IsFirstUnreadable : ℕ → List (List ℕ) → Type 0
IsFirstUnreadable number [] = number ≡ 1
IsFirstUnreadable number (first ∷ later) =
    ((number ≡ 1) × ((kind : Kind) → (limit : ℕ) → ¬ IsOpening kind limit first))
    ⊎ (((kind : Kind) × (limit : ℕ) × IsOpening kind limit first) × IsStop 2 number later)
