use Rattle.std.proofs.Common.{List, ℕ, subst}
use Rattle.std.specs.Prelude.{IfOk, MatchOption}
use Rattle.once_machine.specs.declared.record.Kind.{Kind}
use Rattle.once_script.specs.Text.{IsOpening}
use Rattle.once_script.proofs.ReadLemmas.{told}
use Rattle.once_script.proofs.Utf8Lemmas.{opening_text}
use Rattle.once_script.proofs.parse.lines.opening_in.Goals as goal

pub returns-in_default : goal.returns-in_default
returns-in_default c = λ kind limit is. c.in_default.ensures.cases.0 (opening_text kind limit _ is)

pub returns : goal.returns
returns c =
    let text = c.in-Ok.text.now in
    let all = c.parse_opening.ensures.all in
    subst (λ (t : List ℕ). IfOk c.parse_opening.result (λ read. MatchOption read ((kind : Kind) → (limit : ℕ) → ¬ IsOpening kind limit t)
    (λ opening. IsOpening opening.kind opening.limit t))) c.in-Ok.ensures.cases.0
    (told (λ opening. IsOpening opening.kind opening.limit text) ((kind : Kind) → (limit : ℕ) → ¬ IsOpening kind limit text) c.parse_opening.result
    c.parse_opening.ensures.read (λ no kind limit is. no (all kind limit is)))
