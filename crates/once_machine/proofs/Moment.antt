-- One lemma a moment: the book before it, and the book that one step of one task makes of it.
pub mod Numbers
pub mod Pages
pub mod Step
pub mod Words
pub mod Doors
pub mod Sections
pub mod Calls
