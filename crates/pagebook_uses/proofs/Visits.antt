-- The hall.
pub mod Counts
pub mod Steps
