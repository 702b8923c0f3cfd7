-- Each line of a script is UTF-8.
use Rattle.std.proofs.Common.{◌≡◌, ◌==◌, ◌<◌, ℕ, Bool, true, false, List, [], ◌∷◌, ◌++◌, codes, refl, sym, subst, arith}
use Rattle.std.specs.Prelude.{Option, Some, None, ◌&&◌, nat_lt}
use Rattle.std.specs.Char.{is_ascii_digit}
use Rattle.std.specs.List.{slice_split, join_with_byte}
use Rattle.std.specs.Str.{IsUtf8, IsAscii, all_ascii_digits}
use Rattle.std.proofs.lemmas.Bool.Decides.{nat_tests}
use Rattle.std.proofs.lemmas.List.Splits.{join_with_byte-slice_split}
use Rattle.std.proofs.lemmas.Str.{IsUtf8-nil, IsUtf8-append, IsUtf8-from_ascii}
use Rattle.std.proofs.lemmas.Str.Ascii.{IsAscii-nil, IsAscii-cons}
use Rattle.once_machine.specs.declared.record.Call.TheVariants.{Take, Write, Parts, ReplaceValue, ReplaceAnswers}
use Rattle.once_machine.specs.declared.record.Input.TheVariants.{Make, Poll, Drop, Go, Look, Own}
use Rattle.once_machine.specs.declared.record.Kind.{Kind}
use Rattle.once_machine.specs.declared.record.Kind.TheVariants.{Once, OnceWith, Lazy, LazyWith}
use Rattle.once_machine.specs.declared.record.Ran.{Ran}
use Rattle.once_machine.specs.declared.record.Ran.TheVariants.{Pending, Value, Error}
use Rattle.once_script.specs.declared.parse.Line.{Line}
use Rattle.once_script.specs.declared.parse.Line.TheVariants.{Single, Run}
use Rattle.once_script.specs.Number.{number_of, limit_of}
use Rattle.once_script.specs.Answer.{IsAnswer, IsListed, AreListed, AreAnswers}
use Rattle.once_script.specs.Text.{IsWordNumber, IsListAfter, IsWithAfter, IsOpening, IsPair, IsGiven, IsStep, IsLine}
use Rattle.once_script.proofs.FieldLemmas.{number_digits, limit_number}

digit_ascii : (c : ℕ) (b : Bool) → is_ascii_digit c && b ≡ true → (c < 128) × (b ≡ true)
digit_ascii c b h = (grind (arith, nat_tests), grind (arith, nat_tests))

abbrev are_ascii : List ℕ → Bool
are_ascii [] = true
are_ascii (c ∷ cs) = nat_lt c 128 && are_ascii cs

both_ascii : (c : ℕ) (b : Bool) → nat_lt c 128 && b ≡ true → (c < 128) × (b ≡ true)
both_ascii c b h = (grind (arith, nat_tests), grind (arith, nat_tests))

ascii_from : (text : List ℕ) → are_ascii text ≡ true → IsAscii text
ascii_from [] h = IsAscii-nil
ascii_from (c ∷ cs) h = let k = both_ascii c (are_ascii cs) h in IsAscii-cons c cs k.0 (ascii_from cs k.1)

word_utf8 : (text : List ℕ) → are_ascii text ≡ true → IsUtf8 text
word_utf8 text h = IsUtf8-from_ascii text (ascii_from text h)

digits_ascii : (text : List ℕ) → all_ascii_digits text ≡ true → IsAscii text
digits_ascii [] h = IsAscii-nil
digits_ascii (c ∷ cs) h =
    let k = digit_ascii c (all_ascii_digits cs) h in IsAscii-cons c cs k.0 (digits_ascii cs k.1)

number_text : (text : List ℕ) (n : ℕ) → number_of text ≡ Some n → IsUtf8 text
number_text text n h = IsUtf8-from_ascii text (digits_ascii text (number_digits text n h))

limit_text : (text : List ℕ) (n : ℕ) → limit_of text ≡ Some n → IsUtf8 text
limit_text text n h = number_text text n (limit_number (number_of text) n h)

joined : (a b text : List ℕ) → IsUtf8 a → IsUtf8 b → text ≡ a ++ b → IsUtf8 text
joined a b text p q e = subst IsUtf8 (sym e) (IsUtf8-append a b p q)

spaced : (a b text : List ℕ) → IsUtf8 a → IsUtf8 b → text ≡ a ++ (32 ∷ b) → IsUtf8 text
spaced a b text p q e = joined a (32 ∷ b) text p (IsUtf8-append (32 ∷ []) b (word_utf8 (32 ∷ []) refl) q) e

answer_text : (a : Ran) (text : List ℕ) → IsAnswer a text → IsUtf8 text
answer_text Pending text h = subst IsUtf8 (sym h) (word_utf8 (codes "p") refl)
answer_text (Value v) text h = joined (codes "v") h.0 text (word_utf8 (codes "v") refl) (number_text h.0 v h.2) h.1
answer_text (Error v) text h = joined (codes "e") h.0 text (word_utf8 (codes "e") refl) (number_text h.0 v h.2) h.1

listed_text : (a : Option ℕ) (text : List ℕ) → IsListed a text → IsUtf8 text
listed_text None text h = answer_text Pending text h
listed_text (Some v) text h = answer_text (Value v) text h

fields_text : (answers : List (Option ℕ)) (fields : List (List ℕ)) → AreListed answers fields → IsUtf8 (join_with_byte 32 fields)
fields_text [] [] h = IsUtf8-nil
fields_text [] (f ∷ fs) h = absurd h
fields_text (a ∷ more) [] h = absurd h
fields_text (a ∷ more) (f ∷ []) h = listed_text a f h.0
fields_text (a ∷ more) (f ∷ g ∷ fs) h =
    spaced f (join_with_byte 32 (g ∷ fs)) (f ++ (32 ∷ join_with_byte 32 (g ∷ fs))) (listed_text a f h.0) (fields_text more (g ∷ fs) h.1) refl

answers_text : (answers : List (Option ℕ)) (text : List ℕ) → AreAnswers answers text → IsUtf8 text
answers_text answers text h =
    subst IsUtf8 (join_with_byte-slice_split 32 text) (fields_text answers (slice_split (λ c. c == 32) text) h)

list_text : (begin : List ℕ) (answers : List (Option ℕ)) (text : List ℕ) → IsUtf8 begin → IsListAfter begin answers text → IsUtf8 text
list_text begin [] text b h = subst IsUtf8 (sym h) b
list_text begin (a ∷ more) text b h = spaced begin h.0 text b (answers_text (a ∷ more) h.0 h.2) h.1

word_text : (word : List ℕ) (n : ℕ) (text : List ℕ) → IsUtf8 word → IsWordNumber word n text → IsUtf8 text
word_text word n text w h = spaced word h.0 text w (number_text h.0 n h.2) h.1

with_text : (begin : List ℕ) (v : ℕ) (text : List ℕ) → IsUtf8 begin → IsWithAfter begin v text → IsUtf8 text
with_text begin v text b h =
    spaced begin h.0 text b (word_text (codes "with") v h.0 (word_utf8 (codes "with") refl) h.2) h.1

pair_text : (a b : ℕ) (text : List ℕ) → IsPair a b text → IsUtf8 text
pair_text a b text h = spaced h.digits h.more text (number_text h.digits a h.first_number) (number_text h.more b h.second_number) h.parts

given_text : (a : Ran) (m : Bool) (text : List ℕ) → IsGiven a m text → IsUtf8 text
given_text a true text h = answer_text a text h
given_text a false text h = joined h.0 (codes " x") text (answer_text a h.0 h.2) (word_utf8 (codes " x") refl) h.1

step_text : (t : ℕ) (a : Ran) (m : Bool) (text : List ℕ) → IsStep t a m text → IsUtf8 text
step_text t a m text h = spaced h.digits h.given text (number_text h.digits t h.task_number) (given_text a m h.given h.is_given) h.parts

pub line_text : (line : Line) (text : List ℕ) → IsLine line text → IsUtf8 text
line_text (Single (Make t)) text h = word_text (codes "make") t text (word_utf8 (codes "make") refl) h
line_text (Single (Poll t w)) text h = joined (codes "poll ") h.0 text (word_utf8 (codes "poll ") refl) (pair_text t w h.0 h.2) h.1
line_text (Single (Drop t)) text h = word_text (codes "drop") t text (word_utf8 (codes "drop") refl) h
line_text (Single (Go t a m)) text h = joined (codes "go ") h.0 text (word_utf8 (codes "go ") refl) (step_text t a m h.0 h.2) h.1
line_text (Single Look) text h = subst IsUtf8 (sym h) (word_utf8 (codes "look") refl)
line_text (Single (Own Take)) text h = subst IsUtf8 (sym h) (word_utf8 (codes "take") refl)
line_text (Single (Own (Write v))) text h = word_text (codes "write") v text (word_utf8 (codes "write") refl) h
line_text (Single (Own Parts)) text h = subst IsUtf8 (sym h) (word_utf8 (codes "parts") refl)
line_text (Single (Own (ReplaceValue v))) text h = with_text (codes "replace") v text (word_utf8 (codes "replace") refl) h
line_text (Single (Own (ReplaceAnswers answers))) text h = list_text (codes "replace") answers.items text (word_utf8 (codes "replace") refl) h
line_text (Run t a m) text h = joined (codes "run ") h.0 text (word_utf8 (codes "run ") refl) (step_text t a m h.0 h.2) h.1

pub opening_text : (kind : Kind) (n : ℕ) (text : List ℕ) → IsOpening kind n text → IsUtf8 text
opening_text Once n text h = joined (codes "once ") h.0 text (word_utf8 (codes "once ") refl) (limit_text h.0 n h.2) h.1
opening_text (OnceWith v) n text h = joined (codes "once ") h.0 text (word_utf8 (codes "once ") refl) (with_text h.2.0 v h.0 (limit_text h.2.0 n h.2.2) h.2.1) h.1
opening_text (Lazy answers) n text h = joined (codes "lazy ") h.0 text (word_utf8 (codes "lazy ") refl) (list_text h.2.0 answers.items h.0 (limit_text h.2.0 n h.2.2) h.2.1) h.1
opening_text (LazyWith v) n text h = joined (codes "lazy ") h.0 text (word_utf8 (codes "lazy ") refl) (with_text h.2.0 v h.0 (limit_text h.2.0 n h.2.2) h.2.1) h.1
