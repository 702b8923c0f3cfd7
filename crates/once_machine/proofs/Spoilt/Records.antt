-- A row with one thing wrong, and a queue log with one.
use Rattle.std.proofs.Common.{ℕ, List, [], ◌∷◌}
use Rattle.once_machine.specs.declared.log.QueueLine.{QueueLine}
use Rattle.once_machine.specs.Record.{Entry, Kind}
use Rattle.once_machine.specs.Log.{IsSound}
use Rattle.once_machine.specs.Run.{IsRun}

-- all but the newest entry are a run, and with it they are none
abbrev pub Spoilt : Kind → ℕ → List Entry → Type 0
Spoilt kind limit [] = ⊥
Spoilt kind limit (e ∷ before) = IsRun kind limit before × (IsRun kind limit (e ∷ before) → ⊥)

-- all but the newest line are sound, and with it they are not
abbrev pub SpoiltLog : List QueueLine → Type 0
SpoiltLog [] = ⊥
SpoiltLog (l ∷ before) = IsSound before × (IsSound (l ∷ before) → ⊥)
