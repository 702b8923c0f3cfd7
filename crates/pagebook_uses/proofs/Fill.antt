-- The shelf.
pub mod Steps
