-- One lemma a place: its step pays what it owes.
pub mod Outcomes
pub mod Builders
pub mod FitsAfter
pub mod Waits
pub mod Relisted
pub mod Sections
pub mod Holds
pub mod Frees
pub mod Releases
pub mod Leaves
