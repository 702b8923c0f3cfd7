use Rattle.std.specs.Prelude.{ℕ, List, Option, Some, None}
use Rattle.once_machine.specs.declared.record.Ran.{Ran}
use Rattle.once_machine.specs.declared.record.Ran.TheVariants.{Pending, Value}
use Rattle.once_script.specs.Answer.{IsAnswer, IsListed}
use Rattle.once_script.proofs.parse.answers.parse_listed.Goals as goal

-- a text that is no answer is none of a list
not_listed : (text : List ℕ) → ((a : Ran) → IsAnswer a text → ⊥) → (a : Option ℕ) → IsListed a text → ⊥
not_listed text n None h = n Pending h
not_listed text n (Some v) h = n (Value v) h

pub returns-in_err-parse_answer : goal.returns-in_err-parse_answer
returns-in_err-parse_answer c =
    rw c.from_residual.ensures (not_listed c.args.text.now c.in_err-parse_answer.ensures)
