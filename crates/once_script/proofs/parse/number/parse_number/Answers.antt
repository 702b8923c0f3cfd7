use Rattle.std.proofs.Common.{sym, ◌∙◌}
use Rattle.once_script.proofs.NumberLemmas.{number_of_parse, number_of_other}
use Rattle.once_script.proofs.parse.number.parse_number.Goals as goal

pub returns-then-not-is_plain : goal.returns-then-not-is_plain
returns-then-not-is_plain c =
    number_of_other c.args.text.now (sym c.is_plain.ensures ∙ c.if-not-is_plain.true)

pub returns : goal.returns
returns c =
    c.ok.ensures.value ∙ number_of_parse c.args.text.now c.parse.result c.parse.ensures.value.0
    (sym c.is_plain.ensures ∙ c.if-not-is_plain.false)
