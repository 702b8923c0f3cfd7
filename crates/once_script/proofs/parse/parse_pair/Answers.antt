use Rattle.std.proofs.Common.{arith}
use Rattle.std.proofs.lemmas.Str.Pattern.{split_once_first}
use Rattle.std.specs.Prelude.{None}
use Rattle.once_script.proofs.FieldLemmas.{pair_falls}
use Rattle.once_script.proofs.parse.parse_pair.Goals as goal

pub returns-in_err-first-clause-all : goal.returns-in_err-first-clause-all
returns-in_err-first-clause-all c = λ a b h.
    let k = pair_falls a b c.args.text.now h in
    let s = split_once_first 32 c.args.text.now None c.in_err-first.ensures.cases (omega arith) in
    absurd (omega arith)

pub returns-in_err-parse_number-clause-all : goal.returns-in_err-parse_number-clause-all
returns-in_err-parse_number-clause-all c = λ a b h.
    let k = pair_falls a b c.args.text.now h in
    let s = rw c.in_ok-first.was at (split_once_first 32 c.args.text.now c.split_once.result c.split_once.ensures.cases (omega arith)) in
    cc c.in_err-parse_number.ensures

pub returns-in_err-parse_number-2-clause-all : goal.returns-in_err-parse_number-2-clause-all
returns-in_err-parse_number-2-clause-all c = λ a b h.
    let k = pair_falls a b c.args.text.now h in
    let s = rw c.in_ok-first.was at (split_once_first 32 c.args.text.now c.split_once.result c.split_once.ensures.cases (omega arith)) in
    cc c.in_err-parse_number-2.ensures
