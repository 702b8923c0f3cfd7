-- In a run, polls that end with a value answer the one value that is set until the owner changes it.
use Rattle.std.proofs.Common.{ℕ, List, [], ◌∷◌}
use Rattle.once_machine.specs.Record.{Kind, Entry, Value, End}
use Rattle.once_machine.specs.Run.{IsRun}
use Rattle.once_machine.specs.Values.{AnswersSet, IsOneValue}
use Rattle.once_machine.proofs.Law.Rights.{value_lasts}
use Rattle.once_machine.proofs.Law.Crowded.{value_set}

answers_set : (K : Kind) (limit : ℕ) (e : Entry) (h : List Entry) → IsRun K limit (e ∷ h) → AnswersSet K e h
answers_set K limit (End t (Value v)) h r = value_set K limit t v h r
answers_set K limit _ h r = tt

pub one_value : (K : Kind) (limit : ℕ) (h : List Entry) → IsRun K limit h → IsOneValue K h
one_value K limit [] r = tt
one_value K limit (e ∷ h) r = (answers_set K limit e h r, (λ n v c. value_lasts K limit e h v r n c), one_value K limit h r.1)
