-- How a row is written: oldest first, and a run of a task as sixteen steps.
use Rattle.std.proofs.Common.{ℕ, zero, suc, true, List, [], ◌∷◌}
use Rattle.once_machine.specs.Record.{Answer}
use Rattle.once_machine.specs.Inputs.{Go, Input}

-- the list xs, turned, before ys
abbrev turned : {X : Type 0} → List X → List X → List X
turned [] ys = ys
turned (x ∷ xs) ys = turned xs (x ∷ ys)

-- what was written oldest first, the newest first
abbrev pub newest_first : {X : Type 0} → List X → List X
newest_first xs = turned xs []

-- n steps of t
abbrev pub steps : ℕ → ℕ → Answer → List Input
steps zero t a = []
steps (suc n) t a = Go t a true ∷ steps n t a

-- as many steps as a call may take
abbrev pub run : ℕ → Answer → List Input
run t a = steps 16 t a
