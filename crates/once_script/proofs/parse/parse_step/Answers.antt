use Rattle.std.proofs.Common.{arith}
use Rattle.std.proofs.lemmas.Str.Pattern.{split_once_first}
use Rattle.std.specs.Prelude.{None}
use Rattle.once_script.specs.Text.{IsGiven}
use Rattle.once_script.proofs.FieldLemmas.{step_falls}
use Rattle.once_script.proofs.parse.parse_step.Goals as goal

pub returns-in_err-task-clause-all : goal.returns-in_err-task-clause-all
returns-in_err-task-clause-all c = λ t a m h.
    let k = step_falls t a m c.args.text.now h in
    let s = split_once_first 32 c.args.text.now None c.in_err-task.ensures.cases (omega arith) in
    absurd (omega arith)

pub returns-in_err-task-2-clause-all : goal.returns-in_err-task-2-clause-all
returns-in_err-task-2-clause-all c = λ t a m h.
    let k = step_falls t a m c.args.text.now h in
    let s = rw c.in_ok-task.was at (split_once_first 32 c.args.text.now c.split_once.result c.split_once.ensures.cases (omega arith)) in
    cc c.in_err-task-2.ensures

pub returns-in_err-answer-clause-all : goal.returns-in_err-answer-clause-all
returns-in_err-answer-clause-all c = λ t a m h.
    let k = step_falls t a m c.args.text.now h in
    let s = rw c.in_ok-task.was at (split_once_first 32 c.args.text.now c.split_once.result c.split_once.ensures.cases (omega arith)) in
    let g : IsGiven a m c.in_ok-task.given.now = rw s.2 k.2 in
    absurd (c.in_err-answer.ensures a m g)
