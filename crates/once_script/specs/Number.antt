-- Numbers, as text.
use Rattle.std.specs.Prelude.{ℕ, ◌^◌, ◌-◌, ◌==◌, nat_lt, nat_le, Bool, not, ◌&&◌, ◌||◌, if◌then◌else◌}
use Rattle.std.specs.Prelude.{List, length, slice_index, Option, Some, None}
use Rattle.std.specs.Option.{option_and_then}
use Rattle.std.specs.Str.{all_ascii_digits}
use Rattle.std.specs.Str.Parse.{digits_value}

-- no plus in front, and no zero before another character
abbrev pub is_plain : List ℕ → Bool
is_plain text = not (slice_index text 0 == 43) && (length text == 1 || not (slice_index text 0 == 48))

-- one or more digits, with no zero before another digit, and below 2 ^ 64
abbrev pub is_number : List ℕ → Bool
is_number text = nat_lt 0 (length text) && all_ascii_digits text && is_plain text
    && nat_lt (digits_value 10 text) (2 ^ 64)

-- the number that a text is
abbrev pub number_of : List ℕ → Option ℕ
number_of text = if is_number text then Some (digits_value 10 text) else None

-- how many tasks may be counted in, by a text
abbrev pub limit_of : List ℕ → Option ℕ
limit_of text = option_and_then (λ n. if nat_lt 0 n && nat_le n (2 ^ 62 - 2) then Some n else None) (number_of text)
