-- What is promised of the value of a memo.
use Rattle.std.specs.Prelude.{◌≡◌, ℕ, ◌*◌, List, [], ◌∷◌}

-- the key: the number about which it was promised
abbrev pub key_of : List ℕ → ℕ
key_of [] = 0
key_of (key ∷ others) = key

-- the value is ten times the key
abbrev pub IsTenTimes : List ℕ → ℕ → Type 0
IsTenTimes about value = value ≡ 10 * key_of about
