use Rattle.std.proofs.Common.{◌++◌, ◌∙◌, ℕ, List, ap, sym, codes}
use Rattle.once_script.proofs.LineLemmas.{after_once, after_lazy}
use Rattle.once_script.proofs.parse.parse_opening.Goals as goal

pub returns-in-Some-clause-all : goal.returns-in-Some-clause-all
returns-in-Some-clause-all c = λ kind limit h.
    let k = c.in-Some.ensures.cases in
    let parts = k.1.1 ∙ ap (λ (w : List ℕ). codes "once " ++ w) (sym k.2) in
    c.parse_once.ensures.all kind limit (after_once c.args.text.now c.in-Some.rest.now parts kind limit h)

pub returns-in-Some-strip_prefix-clause-all : goal.returns-in-Some-strip_prefix-clause-all
returns-in-Some-strip_prefix-clause-all c = λ kind limit h.
    let k = c.in-Some-strip_prefix.ensures.cases in
    let parts = k.1.1 ∙ ap (λ (w : List ℕ). codes "lazy " ++ w) (sym k.2) in
    c.parse_lazy.ensures.all kind limit
    (after_lazy c.args.text.now c.in-Some-strip_prefix.rest.now parts kind limit h)
