-- What is read of a text is all that the text can be.
use Rattle.std.specs.Prelude.{Result, Ok, Err, Option, Some, None, IfOk, IfSome, IsSome, MatchOption}
use Rattle.std.proofs.lemmas.Bool.{false≢true}

pub told : {A E : Type 0} (P : A → Type 0) (N : Type 0) (r : Result (Option A) E) → IfOk r (λ read. IfSome read P) → ((IfOk r (λ read. IsSome read) → ⊥) → N) → IfOk r (λ read. MatchOption read N P)
told P N (Ok None) read none = none false≢true
told P N (Ok (Some x)) read none = read
told P N (Err e) read none = tt
