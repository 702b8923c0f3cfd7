-- The state of a slot.
pub mod Steps
