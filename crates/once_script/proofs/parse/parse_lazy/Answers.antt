use Rattle.std.proofs.Common.{ℕ, List, Option, arith}
use Rattle.std.proofs.lemmas.Bool.{false≢true}
use Rattle.std.proofs.lemmas.Str.Pattern.{split_once_first, split_parts}
use Rattle.std.specs.Prelude.{None}
use Rattle.once_script.specs.Answer.{AreAnswers}
use Rattle.once_script.specs.Text.{IsLazy, IsWith}
use Rattle.once_script.proofs.ListLemmas.{list_after}
use Rattle.once_script.proofs.OpeningLemmas.{made_reads, made_some, lazy_limit, lazy_limit-first, no_lazy}
use Rattle.once_script.proofs.parse.parse_lazy.Goals as goal

pub returns-in_default-clause-all : goal.returns-in_default-clause-all
returns-in_default-clause-all c = λ kind limit h.
    let s = split_once_first 32 c.args.text.now None c.in_default.ensures.cases (omega arith) in
    made_some _ _ _ limit c.with_limit.ensures (lazy_limit c.args.text.now s kind limit h)

pub returns-in-Some-parse_with-clause-read : goal.returns-in-Some-parse_with-clause-read
returns-in-Some-parse_with-clause-read c =
    let parts = rw c.in-Some.is at (split_parts 32 c.args.text.now c.split_once.result c.split_once.ensures.cases (omega arith)) in
    made_reads (λ kind limit. IsLazy kind limit c.args.text.now) _ _ _ c.with_limit-in-Some-parse_with.ensures
    (λ n l. (c.in-Some.limit.now, (c.in-Some.given.now, parts.0, c.in-Some-parse_with.ensures), l))

pub returns-in-Some-parse_with-clause-all : goal.returns-in-Some-parse_with-clause-all
returns-in-Some-parse_with-clause-all c = λ kind limit h.
    let s = rw c.in-Some.is at (split_once_first 32 c.args.text.now c.split_once.result c.split_once.ensures.cases (omega arith)) in
    made_some _ _ _ limit c.with_limit-in-Some-parse_with.ensures
    (rw s.1 (lazy_limit-first c.args.text.now s.0 kind limit h))

pub returns-in_default-2-clause-all : goal.returns-in_default-2-clause-all
returns-in_default-2-clause-all c = λ kind limit h.
    let s = rw c.in-Some.is at (split_once_first 32 c.args.text.now c.split_once.result c.split_once.ensures.cases (omega arith)) in
    let no_value : (v : ℕ) → IsWith v c.in-Some.given.now → ⊥ = c.in_default-parse_with.ensures in
    let no_answers = λ (list : List (Option ℕ)) (l : AreAnswers list c.in-Some.given.now). false≢true (rw c.in_default-2.is at (c.in_ok-answers.ensures.all list l)) in
    absurd (no_lazy c.args.text.now s.0 (rw (← s.2) no_value) (rw (← s.2) no_answers) kind limit h)

pub returns-clause-read : goal.returns-clause-read
returns-clause-read c =
    let parts = rw c.in-Some.is at (split_parts 32 c.args.text.now c.split_once.result c.split_once.ensures.cases (omega arith)) in
    let listed = rw c.in-Some-2.is at c.in_ok-answers.ensures.read in
    made_reads (λ kind limit. IsLazy kind limit c.args.text.now) _ _ _ c.with_limit-2.ensures
    (λ n l. (c.in-Some.limit.now, list_after c.in-Some.limit.now c.in-Some.given.now c.args.text.now c.in-Some-2.answers.items parts.0 listed, l))

pub returns-clause-all : goal.returns-clause-all
returns-clause-all c = λ kind limit h.
    let s = rw c.in-Some.is at (split_once_first 32 c.args.text.now c.split_once.result c.split_once.ensures.cases (omega arith)) in
    made_some _ _ _ limit c.with_limit-2.ensures
    (rw s.1 (lazy_limit-first c.args.text.now s.0 kind limit h))
