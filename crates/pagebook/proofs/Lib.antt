-- The order in which to read the proofs. Book stands on Rows and Page, State on Book and Value, the others on none.
--   Rows   for whoever writes a rule: what stands in a row of words or pages, and what stands there after a step
--   Page   a page's two parts, the book's and its pen; hands of pens
--   Book   the ghost state: a book is opened, and a step that keeps the rule changes words, pages and log together
--   Value  the values of the machine that words, blanks and tokens are, and where a `Some` has its value
--   State  the steps of the state of a slot: it begins to be written, it is full, and looks at it
--   Share  what may go to other threads, and what a `&` to a token lends
--   Walk   how a walk ends
--   Locks  a lock whose type names its key
-- Book carries `then` and `log` of the operations of `Word` and of `note`, and `rule` of `learn`. State carries the
-- clauses of `put`, `found` and `value` of `Slot`. Share carries `Send` and `Sync` of words, slots and tokens, and
-- Locks all of `KeyedMutex`.
--
-- The other folders are named after files and functions of src. `Proof` there is a walk: a proof by hand, statement by
-- statement. A new step of a word begins as a copy of the walk of `swap`, with the names of its rule in their place.
-- `Send` and `Sync` say what may go to other threads. `Answers` has the proofs of goals that are left open. If an
-- answer has one tactic, it is there only so that an edit that breaks its clause is refused at once.
pub mod Rows
pub mod Page
pub mod Book
pub mod Value
pub mod State
pub mod Share
pub mod Walk
pub mod Locks
