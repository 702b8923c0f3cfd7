-- The number that a text is.
use Rattle.std.proofs.Common.{◌≡◌, ◌≢◌, ℕ, List, Bool, true, false, ◌<◌, ◌^◌, length, get_or, arith, refl, cond}
use Rattle.std.specs.Prelude.{Result, Ok, Err, Some, None}
use Rattle.std.proofs.lemmas.Bool.Decides.{nat_tests}
use Rattle.std.proofs.lemmas.Str.Parse.{IsNumeralModel, numerals_by_value, tells_all_ascii_digits, parse_plain}
use Rattle.std.specs.Str.{all_ascii_digits}
use Rattle.std.specs.Str.Parse.{ParsesUnsigned, digits_value}
use Rattle.std.specs.Result.{result_ok}
use Rattle.once_script.specs.Number.{is_plain, is_number, number_of}

own : IsNumeralModel (λ ds. all_ascii_digits ds ≡ true) (digits_value 10)
own = numerals_by_value _ tells_all_ascii_digits

no_plus : (bs : List ℕ) → is_plain bs ≡ true → get_or bs 0 0 ≢ 43
no_plus bs h = grind (arith, nat_tests)

-- a number, from its parts
is_number_from : (bs : List ℕ) → (all_ascii_digits bs ≡ true) × (0 < length bs) × (digits_value 10 bs < 2 ^ 64) → is_plain bs ≡ true → is_number bs ≡ true
is_number_from bs parts plain = grind (arith, nat_tests)

-- the parts of a number
parts_of_number : (bs : List ℕ) → is_number bs ≡ true → (all_ascii_digits bs ≡ true) × (0 < length bs) × (digits_value 10 bs < 2 ^ 64)
parts_of_number bs h = (grind (arith, nat_tests), grind (arith, nat_tests), grind (arith, nat_tests))

by_test : (n : ℕ) (b : Bool) → b ≡ true → Some n ≡ cond b (Some n) None
by_test n b h = grind (arith, nat_tests)

by_no_test : (n : ℕ) (b : Bool) → (b ≡ true → ⊥) → None ≡ cond b (Some n) None
by_no_test n true h = absurd (h refl)
by_no_test n false h = refl

by_false : (n : ℕ) (b : Bool) → b ≡ false → None ≡ cond b (Some n) None
by_false n b h = grind (arith, nat_tests)

-- what `parse` answers at a plain text is its number
pub number_of_parse : {E : Type 0} (bs : List ℕ) (r : Result ℕ E) → ParsesUnsigned 64 10 bs r → is_plain bs ≡ true → result_ok r ≡ number_of bs
number_of_parse {E} bs (Ok x) h plain =
    let k : ((all_ascii_digits bs ≡ true) × (0 < length bs) × (digits_value 10 bs < 2 ^ 64)) × (x ≡ digits_value 10 bs) = parse_plain own {E = E} 64 bs (Ok x) h (no_plus bs plain) in
    rw k.1 (by_test (digits_value 10 bs) (is_number bs) (is_number_from bs k.0 plain))
number_of_parse {E} bs (Err e) h plain =
    let k : ((all_ascii_digits bs ≡ true) × (0 < length bs) × (digits_value 10 bs < 2 ^ 64)) → ⊥ = parse_plain own {E = E} 64 bs (Err e) h (no_plus bs plain) in
    by_no_test (digits_value 10 bs) (is_number bs) (λ t. k (parts_of_number bs t))

-- a text that is not plain is no number
not_a_number : (bs : List ℕ) → is_plain bs ≡ false → is_number bs ≡ false
not_a_number bs h = grind (arith, nat_tests)

pub number_of_other : (bs : List ℕ) → is_plain bs ≡ false → None ≡ number_of bs
number_of_other bs h = by_false (digits_value 10 bs) (is_number bs) (not_a_number bs h)
