use Rattle.std.proofs.Common.{◌≢◌, ◌∷◌, ℕ, List, None, arith, codes}
use Rattle.std.proofs.lemmas.Grind.{common_steps}
use Rattle.std.proofs.lemmas.Str.Pattern.{strip_prefix_char}
use Rattle.once_machine.specs.declared.record.Ran.{Ran}
use Rattle.once_machine.specs.declared.record.Ran.TheVariants.{Pending, Value, Error}
use Rattle.once_script.specs.Answer.{IsAnswer}
use Rattle.once_script.proofs.parse.answers.parse_answer.Goals as goal

-- a text that begins with none of the three letters of an answer is none
no_answer : (text : List ℕ) → text ≢ codes "p" → ((rest : List ℕ) → text ≢ 118 ∷ rest) → ((rest : List ℕ) → text ≢ 101 ∷ rest) → (a : Ran) → IsAnswer a text → ⊥
no_answer text pending value error Pending h = pending h
no_answer text pending value error (Value n) h = value h.0 h.1
no_answer text pending value error (Error n) h = error h.0 h.1

pub returns : goal.returns
returns c =
    let pending : c.args.text.now ≢ codes "p" = grind (arith, common_steps) in
    no_answer c.args.text.now pending
    (strip_prefix_char 118 c.args.text.now None c.in_default.ensures.cases (omega arith))
    (strip_prefix_char 101 c.args.text.now None c.in_default-strip_prefix.ensures.cases (omega arith))
