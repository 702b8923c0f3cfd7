-- The order in which to read the proofs. Each module stands on those above it; only Listing.Apart stands on Invariant.
--   Listing    lists of listings and of numbers: what a wake, a fill and a section hand out, and what is left
--   Steps      one step of the machine at the places where it is long, by what it finds there
--   History    what one more entry changes, and the listings against the history
--   Invariant  what stands for each task at each place, and what a step owes so that all of it stays
--   Place      one lemma a place: its step pays what it owes
--   Input      each input keeps the invariant: `run` and `one_is_called` of `replay`
--   Law        what follows of a run: src/laws.rt, `nobody_forgotten` and `one_value` of `replay`; and `idle`, of `one_is_called`
--   Rows       worked schedules, computed over the definitions. No clause stands on them
--   Spoilt     records and logs with one thing wrong are none. No clause stands on them
--   Shared     what holds of every world to which tasks lead that share a cell
--   Moment     one lemma a moment: the book before one step of one task, and after it. async_once_cell moves its book so
--   Told       what the book of a cell tells at every moment: `is_run` of async_once_cell stands on it
-- The clauses of `Step` follow from specs/Table with no lemma. `replay` is in once_script.
--
-- The other folders are named after files and functions of src. `Answers` has the proofs of goals that are left open
-- there, and `Invariants` what a loop keeps. If an answer has one tactic, it is there only so that an edit that
-- breaks its clause is refused at once.
pub mod Listing
pub mod Steps
pub mod History
pub mod Invariant
pub mod Place
pub mod Input
pub mod Law
pub mod Rows
pub mod Spoilt
pub mod Shared
pub mod Moment
pub mod Told
