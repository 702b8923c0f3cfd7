use Rattle.std.proofs.Common.{arith}
use Rattle.std.proofs.lemmas.Str.Pattern.{split_once_first, split_parts}
use Rattle.std.specs.Prelude.{None, ℕ}
use Rattle.once_script.specs.Text.{IsOnce, IsWith}
use Rattle.once_script.proofs.OpeningLemmas.{made_reads, made_some, once_limit, once_limit-first, no_once}
use Rattle.once_script.proofs.parse.parse_once.Goals as goal

pub returns-in_err-parse_with-in-Some-clause-all :
    goal.returns-in_err-parse_with-in-Some-clause-all
returns-in_err-parse_with-in-Some-clause-all c = λ kind limit h.
    let s = rw c.in-Some.is at (split_once_first 32 c.args.text.now c.split_once.result c.split_once.ensures.cases (omega arith)) in
    let none : (v : ℕ) → IsWith v c.in-Some.given.now → ⊥ = c.in_err-parse_with-in-Some.ensures in
    absurd (no_once c.args.text.now s.0 (rw (← s.2) none) kind limit h)

pub returns-in-None-clause-all : goal.returns-in-None-clause-all
returns-in-None-clause-all c = λ kind limit h.
    let s = split_once_first 32 c.args.text.now None c.in-None.ensures.cases (omega arith) in
    made_some _ _ _ limit c.with_limit.ensures (once_limit c.args.text.now s kind limit h)

pub returns-in_ok-parse_with-in-Some-clause-read :
    goal.returns-in_ok-parse_with-in-Some-clause-read
returns-in_ok-parse_with-in-Some-clause-read c =
    let parts = rw c.in-Some.is at (split_parts 32 c.args.text.now c.split_once.result c.split_once.ensures.cases (omega arith)) in
    made_reads (λ kind limit. IsOnce kind limit c.args.text.now) _ _ _ c.with_limit-in-Some.ensures
    (λ n l. (c.in-Some.limit.now, (c.in-Some.given.now, parts.0, c.in_ok-parse_with-in-Some.ensures), l))

pub returns-in_ok-parse_with-in-Some-clause-all :
    goal.returns-in_ok-parse_with-in-Some-clause-all
returns-in_ok-parse_with-in-Some-clause-all c = λ kind limit h.
    let s = rw c.in-Some.is at (split_once_first 32 c.args.text.now c.split_once.result c.split_once.ensures.cases (omega arith)) in
    made_some _ _ _ limit c.with_limit-in-Some.ensures
    (rw s.1 (once_limit-first c.args.text.now s.0 kind limit h))
