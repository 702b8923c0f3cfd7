-- Into which fields a text falls at its spaces.
use Rattle.std.proofs.Common.{◌≡◌, ◌≢◌, ℕ, List, [], ◌∷◌, ◌++◌, Bool, true, false, ◌<◌, ◌-◌, ◌^◌, ◌==◌, length, suc, take, drop, add-one, length-append, arith, refl, codes, ap}
use Rattle.std.specs.Prelude.{Option, Some, None, ◌&&◌, nat_lt, nat_le, if◌then◌else◌}
use Rattle.std.specs.Option.{option_and_then}
use Rattle.std.specs.List.{position_or_len, before_first, after_first}
use Rattle.std.specs.Str.{all_ascii_digits}
use Rattle.std.proofs.lemmas.Grind.{common_steps}
use Rattle.std.proofs.lemmas.Bool.Decides.{nat_tests}
use Rattle.once_machine.specs.declared.record.Ran.{Ran}
use Rattle.once_machine.specs.declared.record.Ran.TheVariants.{Pending, Value, Error}
use Rattle.once_script.specs.Number.{number_of, limit_of}
use Rattle.once_script.specs.Answer.{IsAnswer, AreAnswers}
use Rattle.once_script.specs.Text.{IsPair, IsStep, IsGiven, IsWith, IsWithAfter, IsListAfter}

-- where the first space of a text stands
abbrev pub space_of : List ℕ → ℕ
space_of text = position_or_len (λ c. c == 32) text

abbrev pub first_field : List ℕ → List ℕ
first_field text = before_first (λ c. c == 32) text

abbrev pub later_fields : List ℕ → List ℕ
later_fields text = after_first (λ c. c == 32) text

-- a text that holds no space
pub record IsField (text : List ℕ) : Type 0 where
  pub no_space : space_of text ≡ length text

digits_no_space : (text : List ℕ) → all_ascii_digits text ≡ true → space_of text ≡ length text
digits_no_space [] h = refl
digits_no_space (c ∷ cs) h = grind (arith, nat_tests, common_steps, digits_no_space cs)

pub number_digits : (text : List ℕ) (n : ℕ) → number_of text ≡ Some n → all_ascii_digits text ≡ true
number_digits text n h = grind (arith, nat_tests, common_steps)

field_of_number : (text : List ℕ) (n : ℕ) → number_of text ≡ Some n → IsField text
field_of_number text n h = record { no_space = digits_no_space text (number_digits text n h) }

pub limit_number : (o : Option ℕ) (n : ℕ) → option_and_then (λ n. if nat_lt 0 n && nat_le n (2 ^ 62 - 2) then Some n else None) o ≡ Some n → o ≡ Some n
limit_number None n h = h
limit_number (Some m) n h = grind (arith, nat_tests, common_steps)

pub field_of_limit : (text : List ℕ) (n : ℕ) → limit_of text ≡ Some n → IsField text
field_of_limit text n h = field_of_number text n (limit_number (number_of text) n h)

field_of_letter : (letter : ℕ) (digits : List ℕ) → letter ≢ 32 → IsField digits → space_of (letter ∷ digits) ≡ length (letter ∷ digits)
field_of_letter letter digits other h = let e = h.no_space in grind (arith, nat_tests, common_steps)

field_of_answer : (a : Ran) (text : List ℕ) → IsAnswer a text → IsField text
field_of_answer Pending text h = record { no_space = rw h refl }
field_of_answer (Value n) text h =
    record { no_space = rw h.1 (field_of_letter 118 h.0 (omega arith) (field_of_number h.0 n h.2)) }
field_of_answer (Error n) text h =
    record { no_space = rw h.1 (field_of_letter 101 h.0 (omega arith) (field_of_number h.0 n h.2)) }

space_after : (field more : List ℕ) → space_of field ≡ length field → space_of (field ++ (32 ∷ more)) ≡ length field
space_after [] more h = refl
space_after (c ∷ cs) more h = grind (arith, nat_tests, common_steps, space_after cs more)

-- a text falls into its first field and what stands after the first space
record FallsInto (field more text : List ℕ) : Type 0 where
  first : first_field text ≡ field
  later : later_fields text ≡ more
  inside : space_of text < length text

take_front : (xs ys : List ℕ) → take (length xs) (xs ++ ys) ≡ xs
take_front [] ys = refl
take_front (x ∷ xs) ys = ap (λ (l : List ℕ). x ∷ l) (take_front xs ys)

drop_past : (xs : List ℕ) (y : ℕ) (ys : List ℕ) → drop (suc (length xs)) (xs ++ (y ∷ ys)) ≡ ys
drop_past [] y ys = refl
drop_past (x ∷ xs) y ys = drop_past xs y ys

falls_into : (field more : List ℕ) → space_of field ≡ length field → FallsInto field more (field ++ (32 ∷ more))
falls_into field more h =
    let e = space_after field more h in
    record {
      first = rw e (take_front field (32 ∷ more));
      later = rw (e, add-one) (drop_past field 32 more);
      inside = omega (arith, e, length-append field (32 ∷ more));
    }

falls : (field more text : List ℕ) → IsField field → text ≡ field ++ (32 ∷ more) → FallsInto field more text
falls field more text h e = rw e (falls_into field more h.no_space)

-- what a text of two numbers falls into
pub pair_falls : (a b : ℕ) (text : List ℕ) → IsPair a b text → (space_of text < length text) × (number_of (first_field text) ≡ Some a) × (number_of (later_fields text) ≡ Some b)
pair_falls a b text h =
    let f = falls h.digits h.more text (field_of_number h.digits a h.first_number) h.parts in
    (f.inside, rw f.first h.first_number, rw f.later h.second_number)

-- what a step falls into
pub step_falls : (t : ℕ) (a : Ran) (m : Bool) (text : List ℕ) → IsStep t a m text → (space_of text < length text) × (number_of (first_field text) ≡ Some t) × IsGiven a m (later_fields text)
step_falls t a m text h =
    let f = falls h.digits h.given text (field_of_number h.digits t h.task_number) h.parts in
    (f.inside, rw f.first h.task_number, rw f.later h.is_given)

-- what an answer without memory falls into
refused_falls : (a : Ran) (text : List ℕ) → IsGiven a false text → (space_of text < length text) × IsAnswer a (first_field text) × (later_fields text ≡ codes "x")
refused_falls a text h =
    let f = falls h.0 (codes "x") text (field_of_answer a h.0 h.2) h.1 in
    (f.inside, rw f.first h.2, f.later)

-- what a limit and a value fall into
pub with_falls : (limit value : ℕ) (digits text : List ℕ) → IsWithAfter digits value text → limit_of digits ≡ Some limit
    → (space_of text < length text) × (limit_of (first_field text) ≡ Some limit) × IsWith value (later_fields text)
with_falls limit value digits text h l =
    let f = falls digits h.0 text (field_of_limit digits limit l) h.1 in
    (f.inside, rw f.first l, rw f.later h.2)

-- what a limit and answers fall into
pub list_falls : (limit : ℕ) (x : Option ℕ) (xs : List (Option ℕ)) (digits text : List ℕ) → IsListAfter digits (x ∷ xs) text → limit_of digits ≡ Some limit
    → (space_of text < length text) × (limit_of (first_field text) ≡ Some limit) × AreAnswers (x ∷ xs) (later_fields text)
list_falls limit x xs digits text h l =
    let f = falls digits h.0 text (field_of_limit digits limit l) h.1 in
    (f.inside, rw f.first l, rw f.later h.2)

-- a field that is no answer is not what a step is given
pub no_given : (text : List ℕ) → space_of text ≡ length text → ((a : Ran) → IsAnswer a text → ⊥) → (a : Ran) (m : Bool) → IsGiven a m text → ⊥
no_given text e n a true h = n a h
no_given text e n a false h = let k = refused_falls a text h in omega arith

-- two fields whose first is no answer are not what a step is given
pub no_given-first : (text : List ℕ) → space_of text < length text → ((a : Ran) → IsAnswer a (first_field text) → ⊥) → (a : Ran) (m : Bool) → IsGiven a m text → ⊥
no_given-first text e n a true h = let k = (field_of_answer a text h).no_space in omega arith
no_given-first text e n a false h = n a (refused_falls a text h).1

-- fields that end otherwise are not what a step is given
pub no_given-mark : (text : List ℕ) → space_of text < length text → later_fields text ≢ codes "x" → (a : Ran) (m : Bool) → IsGiven a m text → ⊥
no_given-mark text e n a true h = let k = (field_of_answer a text h).no_space in omega arith
no_given-mark text e n a false h = n (refused_falls a text h).2
