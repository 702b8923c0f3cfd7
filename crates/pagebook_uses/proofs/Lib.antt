-- The order in which to read the proofs. Each module is of one use, and stands on none of the others:
--   Medal   which thread comes first: coming keeps the rule, and no two came first (`never_both`)
--   Visits  the hall: each step keeps its rule (`enter`, `leave`, and `counted` and `rule` of `audit`)
--   Rally   two words that change in turn: `hit` of both players, and `rally` and `turn` of `end`
--   Draw    numbers that are drawn: `drawn` of `draw`, and no two pages have a number in common (`compare`)
--   Fill    the shelf: `seen` of `fill`, and `found` of `look`
-- Most of them cite Rows of pagebook. The file of each rule in specs says what its steps have to tell.
--
-- The other folders are named after files and functions of src. `Answers` has the proofs of goals that are left open
-- there, and `Invariants` what a loop keeps. If an answer has one tactic, it is there only so that an edit that
-- breaks its clause is refused at once.
pub mod Medal
pub mod Visits
pub mod Rally
pub mod Draw
pub mod Fill
