-- The word as a number: what each atomic operation makes of its count and its flags.
use Rattle.std.proofs.Common.{◌≡◌, ◌<◌, ◌+◌, ◌-◌, ◌*◌, ◌%◌, ◌^◌, ℕ, suc, Bool, true, false, cond, ◌==◌, refl, arith}
use Rattle.std.specs.Prelude.{not}
use Rattle.std.proofs.lemmas.Bool.Decides.{nat_tests}
use Rattle.once_machine.specs.Word.{Flags, flags_of, is_quick_bit, is_zero}

-- flags that are equal each by itself
same_flags : (f g : Flags) → f.count ≡ g.count → f.quick ≡ g.quick → f.ready ≡ g.ready → f ≡ g
same_flags f g c q r = λ i. record { count = c i; quick = q i; ready = r i }

-- the word is NEW
pub zero_word : (n : ℕ) → n < 2 ^ 64 → is_zero (flags_of n) ≡ (n == 0)
zero_word n m = grind (arith, nat_tests)

-- the word is the quick bit
pub quick_word : (n : ℕ) → n < 2 ^ 64 → is_quick_bit (flags_of n) ≡ (n == 2 ^ 62)
quick_word n m = grind (arith, nat_tests)

-- one more is counted
pub word_in : (n : ℕ) → (flags_of n).count < 2 ^ 62 - 1 → flags_of (n + 1) ≡ record (flags_of n) { count = suc (flags_of n).count }
word_in n l = same_flags (flags_of (n + 1)) (record (flags_of n) { count = suc (flags_of n).count }) (omega arith) (grind (arith, nat_tests)) (grind (arith, nat_tests))

-- one less is counted
pub word_out : (n : ℕ) → 0 < (flags_of n).count → flags_of (n - 1) ≡ record (flags_of n) { count = (flags_of n).count - 1 }
word_out n l = same_flags (flags_of (n - 1)) (record (flags_of n) { count = (flags_of n).count - 1 }) (omega arith) (grind (arith, nat_tests)) (grind (arith, nat_tests))

-- what a release adds to the word, modulo 2 ^ 64, by whether the value is set and whether the flag beside the list stands
abbrev pub release_more : Bool → Bool → ℕ
release_more true true = 2 ^ 63
release_more true false = 2 ^ 62
release_more false true = 0
release_more false false = 3 * 2 ^ 62

-- the quick flag is cleared, and the value is set or not
pub word_freed : (n : ℕ) (v head : Bool) → n < 2 ^ 64 → (flags_of n).ready ≡ false → head ≡ not (flags_of n).quick
    → flags_of ((n + release_more v head) % 2 ^ 64) ≡ record (flags_of n) { quick = false; ready = v }
word_freed n true true m r q = same_flags (flags_of ((n + release_more true true) % 2 ^ 64)) (record (flags_of n) { quick = false; ready = true })
    (omega arith) (grind (arith, nat_tests)) (grind (arith, nat_tests))
word_freed n true false m r q = same_flags (flags_of ((n + release_more true false) % 2 ^ 64)) (record (flags_of n) { quick = false; ready = true })
    (omega arith) (grind (arith, nat_tests)) (grind (arith, nat_tests))
word_freed n false true m r q = same_flags (flags_of ((n + release_more false true) % 2 ^ 64)) (record (flags_of n) { quick = false; ready = false })
    (omega arith) (grind (arith, nat_tests)) (grind (arith, nat_tests))
word_freed n false false m r q = same_flags (flags_of ((n + release_more false false) % 2 ^ 64)) (record (flags_of n) { quick = false; ready = false })
    (omega arith) (grind (arith, nat_tests)) (grind (arith, nat_tests))

-- a word that is NEW gets the quick bit
pub word_quick : (n : ℕ) → n ≡ 0 → flags_of (2 ^ 62) ≡ record (flags_of n) { quick = true }
word_quick n z = rw z refl

-- the quick bit is exchanged for the ready bit, or for NEW
pub word_fast : (n : ℕ) (v : Bool) → n ≡ 2 ^ 62 → flags_of (cond v (2 ^ 63) 0) ≡ record (flags_of n) { quick = false; ready = v }
word_fast n true e = rw e refl
word_fast n false e = rw e refl

-- none of these leaves the range: the addition
pub in_within : (n : ℕ) → n < 2 ^ 64 → (flags_of n).count < 2 ^ 62 - 1 → n + 1 < 2 ^ 64
in_within n m l = omega arith

-- the exchange
pub fast_within : (v : Bool) → cond v (2 ^ 63) 0 < 2 ^ 64
fast_within true = omega arith
fast_within false = omega arith

-- the release
pub freed_within : (n : ℕ) → n % 2 ^ 64 < 2 ^ 64
freed_within n = omega arith

-- the addition of one does not wrap
pub in_wraps : (n : ℕ) → n < 2 ^ 64 → (flags_of n).count < 2 ^ 62 - 1 → (n + 1) % 2 ^ 64 ≡ n + 1
in_wraps n m l = omega arith

-- nor does the subtraction
pub out_wraps : (n : ℕ) → n < 2 ^ 64 → 0 < (flags_of n).count → (n + (2 ^ 64 - 1)) % 2 ^ 64 ≡ n - 1
out_wraps n m l = omega arith
