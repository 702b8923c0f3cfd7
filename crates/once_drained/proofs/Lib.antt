-- The order in which to read the proofs.
--   Own      the entries of one poll, in which no other task holds: it ends with the task gone, or with its init pending
--   Moves    what the steps of one task change: its own entries alone come to the record
--   Quiet    a world in which no call is under way: who may be polled, and that all are gone if there is nobody
--   Polled   one poll there: its task is gone after it, or its init is pending
--   Worlds   the same of the worlds of the program
--   Records  what is read of a record: the tasks that were made, and those that were woken
pub mod Own
pub mod Moves
pub mod Quiet
pub mod Polled
pub mod Worlds
pub mod Records
