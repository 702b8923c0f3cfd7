-- The order in which to read the proofs. There is one module:
--   Runs  what a run began with is a run, and what holds of each beginning of a record holds of the record
-- It carries the clauses of `told_alone` and `one_is_called` in src/told.rt, with `is_run` of async_once_cell.
--
-- The other folders are named after files and functions of src. `Answers` has the proofs of goals that are left open
-- there.
mod Runs
