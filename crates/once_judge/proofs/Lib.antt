-- The order in which to read the proofs. Each module stands on those above it.
--   Entries   what an entry that may come next tells of its task, and how it moves counts
--   Either    what both rules for a release without a value want of an entry, and when they say the same
--   Basics    what is kept of the cell, of tasks and of wakers is right after one more entry
--   Sinces    what was so since a poll began is right after it; so all that is kept is (`seen_after`)
--   Legality  what is kept decides which entry may come next, and a reason that is true by it is true
--   Turns     what is kept tells whether some task was woken
--   Lists     lists of numbers, and a walk along one
--   Taking    `take` makes of what is kept what one more entry makes of it
--   Handing   which lists of wakers may be handed out
--   Dues      which tasks are due, wait or were woken, from a walk over those that live
--   Verdicts  one more entry, and what a verdict says
--   Within    no count is beyond the number of entries
--
-- The other folders are named after files and functions of src. `Answers` has the proofs of goals that are left open
-- there, and `Invariants` what a loop keeps.
mod Entries
mod Either
mod Basics
mod Sinces
mod Legality
mod Turns
mod Lists
mod Taking
mod Handing
mod Dues
mod Verdicts
mod Within
