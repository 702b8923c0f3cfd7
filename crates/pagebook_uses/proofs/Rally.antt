-- The two words.
pub mod Lengths
pub mod Steps
