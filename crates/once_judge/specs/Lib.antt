-- The words of the judge's clauses. Verdict and Calls have those of `judge` itself: read them first. The others are of
-- clauses inside the crate.
--   Verdict   where a record stops to be a run, which reason is true, and where somebody is forgotten
--   Calls     what a run is by either rule for a release without a value
--   Seen      what is kept of a history, and what one more entry makes of it
--   Legal     which entry may come next, by what is kept; and whether some task was woken
--   SeenOf    that what is kept is what the history tells
--   Living    which of the tasks that live wait, and which of these ask to be woken
--   Values    the program's status and cell; TaskShown its task
--   Shown     the program's `Seen`, and what each part of `take` makes of it
--   Reasons   which reason is true, by what is kept; Next which entry may come next, in short
--   Moments   which moment is the first at which somebody is forgotten
pub mod Values
pub mod Calls
pub mod Verdict
pub mod Seen
pub mod Legal
pub mod SeenOf
pub mod TaskShown
pub mod Living
pub mod Shown
pub mod Reasons
pub mod Next
pub mod Moments
