-- Which moment is the first at which somebody is forgotten.
use Rattle.std.specs.Prelude.{◌≡◌, ℕ, Option, Some, None, MatchOption}
use Rattle.once_judge.specs.declared.verdict.Forgotten.{Forgotten}
use Rattle.once_judge.specs.Seen.{Seen}
use Rattle.once_judge.specs.Legal.{SomebodyCalledIn, IsForgottenIn}

-- an earlier one, or the moment after entry n, by what is kept then
abbrev pub FirstForgotten : Option Forgotten → Option Forgotten → ℕ → Seen → Type 0
FirstForgotten (Some f) result n S = result ≡ Some f
FirstForgotten None result n S = MatchOption result (SomebodyCalledIn S) (λ f. (f.entry ≡ n) × IsForgottenIn f.task S)
