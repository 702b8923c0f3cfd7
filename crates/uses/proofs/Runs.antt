-- What a run began with is a run; and what holds of each beginning of a record holds of the record.
use Rattle.std.proofs.Common.{ℕ, List, [], ◌∷◌, ◌++◌}
use Rattle.async_once_cell.specs.Record.{Entry, Kind}
use Rattle.async_once_cell.specs.Run.{AtEvery, IsRun}

pub run_before : (kind : Kind) (limit : ℕ) (later before : List Entry) → IsRun kind limit (later ++ before) → IsRun kind limit before
run_before kind limit [] before r = r
run_before kind limit (e ∷ later) before r = run_before kind limit later before r.1

pub at_the_newest : (P : List Entry → Type 0) (h : List Entry) → AtEvery P h → P h
at_the_newest P [] p = p
at_the_newest P (e ∷ h) p = p.0
