-- What a first line says of the kind and the limit.
use Rattle.std.proofs.Common.{◌≡◌, ◌<◌, ◌∷◌, ℕ, List, [], length, arith, refl}
use Rattle.std.specs.Prelude.{Option, Some, None, MatchOption, IfSome, IsSome}
use Rattle.once_machine.specs.declared.record.Kind.{Kind}
use Rattle.once_machine.specs.declared.record.Kind.TheVariants.{Once, OnceWith, Lazy, LazyWith}
use Rattle.once_script.specs.declared.parse.Opening.{Opening}
use Rattle.once_script.specs.Number.{limit_of}
use Rattle.once_script.specs.Answer.{AreAnswers}
use Rattle.once_script.specs.Text.{IsWith, IsListAfter, IsOnce, IsLazy}
use Rattle.once_script.proofs.FieldLemmas.{space_of, first_field, later_fields, field_of_limit, with_falls, list_falls}

-- what `with_limit` says of its result r
abbrev IsMade : Option Opening → Kind → Option ℕ → Type 0
IsMade r kind limit = MatchOption r (limit ≡ None) (λ x. (x.kind ≡ kind) × (limit ≡ Some x.limit))

pub made_reads : (P : Kind → ℕ → Type 0) (r : Option Opening) (kind : Kind) (limit : Option ℕ) → IsMade r kind limit → ((n : ℕ) → limit ≡ Some n → P kind n) → IfSome r (λ x. P x.kind x.limit)
made_reads P None kind limit h f = tt
made_reads P (Some x) kind limit h f = rw h.0 (f x.limit h.1)

pub made_some : (r : Option Opening) (kind : Kind) (limit : Option ℕ) (n : ℕ) → IsMade r kind limit → limit ≡ Some n → IsSome r
made_some None kind limit n h e = cc
made_some (Some x) kind limit n h e = refl

-- the limit of a once cell that is one field
pub once_limit : (text : List ℕ) → space_of text ≡ length text → (kind : Kind) (n : ℕ) → IsOnce kind n text → limit_of text ≡ Some n
once_limit text e Once n h = h
once_limit text e (OnceWith v) n h = let k = with_falls n v h.0 text h.1 h.2 in absurd (omega arith)
once_limit text e (Lazy answers) n h = absurd h
once_limit text e (LazyWith v) n h = absurd h

-- the limit of a once cell that is more than one field
pub once_limit-first : (text : List ℕ) → space_of text < length text → (kind : Kind) (n : ℕ) → IsOnce kind n text → limit_of (first_field text) ≡ Some n
once_limit-first text e Once n h = let k = (field_of_limit text n h).no_space in absurd (omega arith)
once_limit-first text e (OnceWith v) n h = (with_falls n v h.0 text h.1 h.2).1
once_limit-first text e (Lazy answers) n h = absurd h
once_limit-first text e (LazyWith v) n h = absurd h

pub no_once : (text : List ℕ) → space_of text < length text → ((v : ℕ) → IsWith v (later_fields text) → ⊥) → (kind : Kind) (n : ℕ) → IsOnce kind n text → ⊥
no_once text e w Once n h = let k = (field_of_limit text n h).no_space in omega arith
no_once text e w (OnceWith v) n h = w v (with_falls n v h.0 text h.1 h.2).2
no_once text e w (Lazy answers) n h = h
no_once text e w (LazyWith v) n h = h

list_limit : (text digits : List ℕ) → space_of text ≡ length text → (xs : List (Option ℕ)) (n : ℕ) → IsListAfter digits xs text → limit_of digits ≡ Some n → limit_of text ≡ Some n
list_limit text digits e [] n h l = rw h l
list_limit text digits e (x ∷ xs) n h l = let k = list_falls n x xs digits text h l in absurd (omega arith)

list_limit-first : (text digits : List ℕ) → space_of text < length text → (xs : List (Option ℕ)) (n : ℕ) → IsListAfter digits xs text → limit_of digits ≡ Some n → limit_of (first_field text) ≡ Some n
list_limit-first text digits e [] n h l =
    let k = (field_of_limit text n (rw h l)).no_space in absurd (omega arith)
list_limit-first text digits e (x ∷ xs) n h l = (list_falls n x xs digits text h l).1

no_list : (text digits : List ℕ) → space_of text < length text → ((ys : List (Option ℕ)) → AreAnswers ys (later_fields text) → ⊥)
    → (xs : List (Option ℕ)) (n : ℕ) → IsListAfter digits xs text → limit_of digits ≡ Some n → ⊥
no_list text digits e none [] n h l = let k = (field_of_limit text n (rw h l)).no_space in omega arith
no_list text digits e none (x ∷ xs) n h l = none (x ∷ xs) (list_falls n x xs digits text h l).2

pub lazy_limit : (text : List ℕ) → space_of text ≡ length text → (kind : Kind) (n : ℕ) → IsLazy kind n text → limit_of text ≡ Some n
lazy_limit text e Once n h = absurd h
lazy_limit text e (OnceWith v) n h = absurd h
lazy_limit text e (Lazy answers) n h = list_limit text h.0 e answers.items n h.1 h.2
lazy_limit text e (LazyWith v) n h = let k = with_falls n v h.0 text h.1 h.2 in absurd (omega arith)

pub lazy_limit-first : (text : List ℕ) → space_of text < length text → (kind : Kind) (n : ℕ) → IsLazy kind n text → limit_of (first_field text) ≡ Some n
lazy_limit-first text e Once n h = absurd h
lazy_limit-first text e (OnceWith v) n h = absurd h
lazy_limit-first text e (Lazy answers) n h = list_limit-first text h.0 e answers.items n h.1 h.2
lazy_limit-first text e (LazyWith v) n h = (with_falls n v h.0 text h.1 h.2).1

pub no_lazy : (text : List ℕ) → space_of text < length text → ((v : ℕ) → IsWith v (later_fields text) → ⊥)
    → ((ys : List (Option ℕ)) → AreAnswers ys (later_fields text) → ⊥) → (kind : Kind) (n : ℕ) → IsLazy kind n text → ⊥
no_lazy text e w none Once n h = h
no_lazy text e w none (OnceWith v) n h = h
no_lazy text e w none (Lazy answers) n h = no_list text h.0 e none answers.items n h.1 h.2
no_lazy text e w none (LazyWith v) n h = w v (with_falls n v h.0 text h.1 h.2).2
