use Rattle.std.proofs.Common.{List, ℕ, subst}
use Rattle.std.specs.Prelude.{IfOk, MatchOption}
use Rattle.once_script.specs.declared.parse.Line.{Line}
use Rattle.once_script.specs.Text.{IsLine}
use Rattle.once_script.proofs.ReadLemmas.{told}
use Rattle.once_script.proofs.Utf8Lemmas.{line_text}
use Rattle.once_script.proofs.parse.lines.line_in.Goals as goal

pub returns-in_default : goal.returns-in_default
returns-in_default c = λ line is. c.in_default.ensures.cases.0 (line_text line _ is)

pub returns : goal.returns
returns c =
    let text = c.in-Ok.text.now in
    let all = c.parse_line.ensures.all in
    subst (λ (t : List ℕ). IfOk c.parse_line.result (λ read. MatchOption read ((line : Line) → ¬ IsLine line t) (λ line. IsLine line t))) c.in-Ok.ensures.cases.0
    (told (λ line. IsLine line text) ((line : Line) → ¬ IsLine line text) c.parse_line.result c.parse_line.ensures.read (λ no line is. no (all line is)))
