-- The order in which to read the proofs.
--
-- Of the machine for one caller. Each module stands on those above it, and all on those of once_machine.
--   Listing    which wakers a section hands out
--   Door       the queue log is sound, and tells the queue at the door: `sound` and `stands` of `replay`
--   Part       record and log fall into parts, one for each input: `belongs` and `ample` of `replay`
--   Exactness  a step of the code is one of the machine: `after` of `World::take`, and so `exact` of `replay` and of
--              `replay_lines`
-- The clauses of `Core` follow from specs/Table of once_machine and specs/Core with no lemma. One of its functions is
-- proved by hand: `list`.
--
-- Of the text of a script. OpeningLemmas and Utf8Lemmas stand on FieldLemmas, the others on none.
--   NumberLemmas   the number that a text is: `parse_number`
--   FieldLemmas    into which fields a text falls: `all` of `parse_pair` and `parse_step`
--   ListLemmas     one more answer and one more field: `parse_answers`
--   OpeningLemmas  what a first line says of kind and limit: `all` of `parse_once` and `parse_lazy`
--   LineLemmas     what stands after the first word of a line: `all` of `parse_opening` and `parse_line`
--   Utf8Lemmas     each line of a script is UTF-8, so what is not is no line: `line_in` and `opening_in`
--   ReadLemmas     what is read of a text is all that the text can be: the same two
--   ScriptLemmas   the lines read so far: `read` and `unreadable` of `parse_lines`, and so of `parse_script`
--
-- The other folders are named after files and functions of src. `Answers` has the proofs of goals that are left open
-- there, and `Invariants` what a loop keeps. If an answer has one tactic, it is there only so that an edit that
-- breaks its clause is refused at once.
pub mod Listing
pub mod Door
pub mod Part
pub mod Exactness
pub mod NumberLemmas
pub mod FieldLemmas
pub mod ListLemmas
pub mod OpeningLemmas
pub mod LineLemmas
pub mod Utf8Lemmas
pub mod ReadLemmas
pub mod ScriptLemmas
