use Rattle.std.proofs.Common.{◌≡◌, ◌≢◌, ◌∙◌, ◌++◌, ◌∷◌, ℕ, List, None, ap, arith, codes}
use Rattle.std.proofs.lemmas.Grind.{common_steps}
use Rattle.std.proofs.lemmas.Str.Pattern.{split_once_first, split_parts}
use Rattle.std.proofs.lemmas.Bool.Decides.{Decides-eqb}
use Rattle.std.proofs.lemmas.Slice.Eq.{slice_eq-Decides}
use Rattle.once_machine.specs.declared.record.Ran.{Ran}
use Rattle.once_script.specs.Answer.{IsAnswer}
use Rattle.once_script.proofs.FieldLemmas.{no_given, no_given-first, no_given-mark}
use Rattle.once_script.proofs.parse.parse_given.Goals as goal

pub returns-in_err-parse_answer : goal.returns-in_err-parse_answer
returns-in_err-parse_answer c =
    let s = split_once_first 32 c.args.text.now None c.in_default.ensures.cases (omega arith) in
    rw c.from_residual.ensures (no_given c.args.text.now s c.in_err-parse_answer.ensures)

pub returns-in_err-parse_answer-2 : goal.returns-in_err-parse_answer-2
returns-in_err-parse_answer-2 c =
    let s = rw c.in-Some.is at (split_once_first 32 c.args.text.now c.split_once.result c.split_once.ensures.cases (omega arith)) in
    let none : (a : Ran) → IsAnswer a c.in-Some.answer.now → ⊥ = c.in_err-parse_answer-2.ensures in
    rw c.from_residual-in_err-parse_answer-2.ensures (no_given-first c.args.text.now s.0 (rw (← s.1) none))

pub returns-then-eq : goal.returns-then-eq
returns-then-eq c =
    let parts = rw c.in-Some.is at (split_parts 32 c.args.text.now c.split_once.result c.split_once.ensures.cases (omega arith)) in
    let mark : c.in-Some.mark.now ≡ codes "x" = (slice_eq-Decides Decides-eqb c.in-Some.mark.now (codes "x") c.eq.result c.eq.ensures).0 c.if-eq.true in (
      c.in-Some.answer.now,
      parts.0 ∙ ap (λ (w : List ℕ). c.in-Some.answer.now ++ (32 ∷ w)) mark,
      c.in_ok-parse_answer-2.ensures,
    )

pub returns : goal.returns
returns c =
    let s = rw c.in-Some.is at (split_once_first 32 c.args.text.now c.split_once.result c.split_once.ensures.cases (omega arith)) in
    let other : c.in-Some.mark.now ≢ codes "x" = grind (arith, common_steps) in
    no_given-mark c.args.text.now s.0 (rw (← s.2) other)
