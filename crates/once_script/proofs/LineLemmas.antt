-- What stands after the first word of a line.
use Rattle.std.proofs.Common.{◌≡◌, ◌≢◌, ◌∷◌, ◌++◌, ℕ, List, [], Bool, codes, get_or, ap, sym, ◌∙◌, refl, arith}
use Rattle.std.specs.Prelude.{Option, IsSome}
use Rattle.once_machine.specs.declared.record.Call.{Call}
use Rattle.once_machine.specs.declared.record.Call.TheVariants.{Take, Write, Parts, ReplaceValue, ReplaceAnswers}
use Rattle.once_machine.specs.declared.record.Input.TheVariants.{Make, Poll, Drop, Go, Look, Own}
use Rattle.once_machine.specs.declared.record.Kind.{Kind}
use Rattle.once_machine.specs.declared.record.Kind.TheVariants.{Once, OnceWith, Lazy, LazyWith}
use Rattle.once_machine.specs.declared.record.Ran.{Ran}
use Rattle.once_script.specs.declared.parse.Line.{Line}
use Rattle.once_script.specs.declared.parse.Line.TheVariants.{Single, Run}
use Rattle.once_script.specs.Answer.{AreAnswers}
use Rattle.once_script.specs.Text.{IsWith, IsListAfter, IsLine, IsOpening, IsOnce, IsLazy}

other_letter : (text a b : List ℕ) → get_or a 0 0 ≢ get_or b 0 0 → text ≡ a → text ≡ b → ⊥
other_letter text a b n e f = n (ap (λ (l : List ℕ). get_or l 0 0) (sym e ∙ f))

-- what stands after the word of a first line
pub after_once : (text rest : List ℕ) → text ≡ codes "once " ++ rest → (kind : Kind) (n : ℕ) → IsOpening kind n text → IsOnce kind n rest
after_once text rest e Once n h = let same : rest ≡ h.0 = cc (e, h.1) in rw same h.2
after_once text rest e (OnceWith v) n h = let same : rest ≡ h.0 = cc (e, h.1) in rw same h.2
after_once text rest e (Lazy answers) n h = absurd (other_letter text (codes "once " ++ rest) (codes "lazy " ++ h.0) (omega arith) e h.1)
after_once text rest e (LazyWith v) n h = absurd (other_letter text (codes "once " ++ rest) (codes "lazy " ++ h.0) (omega arith) e h.1)

pub after_lazy : (text rest : List ℕ) → text ≡ codes "lazy " ++ rest → (kind : Kind) (n : ℕ) → IsOpening kind n text → IsLazy kind n rest
after_lazy text rest e Once n h = absurd (other_letter text (codes "lazy " ++ rest) (codes "once " ++ h.0) (omega arith) e h.1)
after_lazy text rest e (OnceWith v) n h = absurd (other_letter text (codes "lazy " ++ rest) (codes "once " ++ h.0) (omega arith) e h.1)
after_lazy text rest e (Lazy answers) n h = let same : rest ≡ h.0 = cc (e, h.1) in rw same h.2
after_lazy text rest e (LazyWith v) n h = let same : rest ≡ h.0 = cc (e, h.1) in rw same h.2

no_answers_after : (text : List ℕ) → ((ys : List (Option ℕ)) → AreAnswers ys text → ⊥) → (xs : List (Option ℕ)) → IsListAfter (codes "replace") xs (codes "replace " ++ text) → ⊥
no_answers_after text none [] h = cc h
no_answers_after text none (x ∷ xs) h = let same : text ≡ h.0 = cc h.1 in none (x ∷ xs) (rw same h.2)

-- a text that is neither a value nor answers replaces nothing
pub no_replacement : (text : List ℕ) → ((v : ℕ) → IsWith v text → ⊥) → ((ys : List (Option ℕ)) → AreAnswers ys text → ⊥) → (call : Call) → IsLine (Single (Own call)) (codes "replace " ++ text) → ⊥
no_replacement text w none Take h = cc h
no_replacement text w none (Write v) h = other_letter (codes "replace " ++ text) (codes "replace " ++ text) (codes "write" ++ (32 ∷ h.0)) (omega arith) refl h.1
no_replacement text w none Parts h = cc h
no_replacement text w none (ReplaceValue v) h = let same : text ≡ h.0 = cc h.1 in w v (rw same h.2)
no_replacement text w none (ReplaceAnswers answers) h = no_answers_after text none answers.items h

-- each line that replaces nothing is read as r
pub record ReadsShort (r : Option Line) (text : List ℕ) : Type 0 where
  pub look : IsLine (Single Look) text → IsSome r
  pub take : IsLine (Single (Own Take)) text → IsSome r
  pub parts : IsLine (Single (Own Parts)) text → IsSome r
  pub make : (task : ℕ) → IsLine (Single (Make task)) text → IsSome r
  pub drop : (task : ℕ) → IsLine (Single (Drop task)) text → IsSome r
  pub write : (value : ℕ) → IsLine (Single (Own (Write value))) text → IsSome r
  pub poll : (task waker : ℕ) → IsLine (Single (Poll task waker)) text → IsSome r
  pub go : (task : ℕ) (answer : Ran) (memory : Bool) → IsLine (Single (Go task answer memory)) text → IsSome r
  pub run : (task : ℕ) (answer : Ran) (memory : Bool) → IsLine (Run task answer memory) text → IsSome r

no_list : (text : List ℕ) → text ≢ codes "replace" → ((rest : List ℕ) → text ≢ codes "replace " ++ rest) → (xs : List (Option ℕ)) → IsListAfter (codes "replace") xs text → ⊥
no_list text alone more [] h = alone h
no_list text alone more (x ∷ xs) h = more h.0 h.1

-- a text that is no replacement is read if it is a line
pub reads_each : (r : Option Line) (text : List ℕ) → text ≢ codes "replace" → ((rest : List ℕ) → text ≢ codes "replace " ++ rest) → ReadsShort r text → (line : Line) → IsLine line text → IsSome r
reads_each r text alone more s (Single (Make t)) h = s.make t h
reads_each r text alone more s (Single (Poll t w)) h = s.poll t w h
reads_each r text alone more s (Single (Drop t)) h = s.drop t h
reads_each r text alone more s (Single (Go t a m)) h = s.go t a m h
reads_each r text alone more s (Single Look) h = s.look h
reads_each r text alone more s (Single (Own Take)) h = s.take h
reads_each r text alone more s (Single (Own (Write v))) h = s.write v h
reads_each r text alone more s (Single (Own Parts)) h = s.parts h
reads_each r text alone more s (Single (Own (ReplaceValue v))) h = absurd (more h.0 h.1)
reads_each r text alone more s (Single (Own (ReplaceAnswers answers))) h = absurd (no_list text alone more answers.items h)
reads_each r text alone more s (Run t a m) h = s.run t a m h
