-- What held of a log held of each beginning of it: a task that saw a part of the log knows that too.
use Rattle.std.proofs.Common.{ℕ, List, [], ◌∷◌, ◌++◌, reverse, subst}
use Rattle.std.proofs.lemmas.List.{reverse-append}
use Rattle.once_machine.specs.Record.{Entry, Kind}
use Rattle.once_machine.specs.Run.{AtEvery, IsRun}

-- of a run with the newest entry first
run_before : (K : Kind) (limit : ℕ) (late h : List Entry) → IsRun K limit (late ++ h) → IsRun K limit h
run_before K limit [] h r = r
run_before K limit (e ∷ late) h r = run_before K limit late h r.1

-- and of what holds at every moment
every_before : (P : List Entry → Type 0) (late h : List Entry) → AtEvery P (late ++ h) → AtEvery P h
every_before P [] h r = r
every_before P (e ∷ late) h r = every_before P late h r.1

-- a beginning of the log is a run
pub run_of_beginning : (K : Kind) (limit : ℕ) (seen late : List Entry) → IsRun K limit (reverse (seen ++ late)) → IsRun K limit (reverse seen)
run_of_beginning K limit seen late r = run_before K limit (reverse late) (reverse seen) (subst (IsRun K limit) (reverse-append seen late) r)

-- what held at every moment of the log held at every moment of its beginning
pub every_of_beginning : (P : List Entry → Type 0) (seen late : List Entry) → AtEvery P (reverse (seen ++ late)) → AtEvery P (reverse seen)
every_of_beginning P seen late r = every_before P (reverse late) (reverse seen) (subst (AtEvery P) (reverse-append seen late) r)
