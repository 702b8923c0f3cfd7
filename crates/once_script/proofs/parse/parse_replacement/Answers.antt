use Rattle.std.proofs.Common.{◌∷◌, ◌++◌, ℕ, List, Option, codes, refl}
use Rattle.std.proofs.lemmas.Bool.{false≢true}
use Rattle.once_script.specs.Answer.{AreAnswers}
use Rattle.once_script.proofs.LineLemmas.{no_replacement}
use Rattle.once_script.proofs.ListLemmas.{list_after}
use Rattle.once_script.proofs.parse.parse_replacement.Goals as goal

pub returns-in_default-2-clause-all : goal.returns-in_default-2-clause-all
returns-in_default-2-clause-all c = λ call h.
    let none = λ (list : List (Option ℕ)) (l : AreAnswers list c.args.text.now). false≢true (rw c.in_default-2.is at (c.in_ok-answers.ensures.all list l)) in
    absurd (no_replacement c.args.text.now c.in_default.ensures none call h)

pub returns-clause-read : goal.returns-clause-read
returns-clause-read c =
    list_after (codes "replace") c.args.text.now (codes "replace" ++ (32 ∷ c.args.text.now)) c.in-Some-2.answers.items refl
    (rw c.in-Some-2.is at c.in_ok-answers.ensures.read)
