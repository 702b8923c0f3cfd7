-- Which thread comes first.
pub mod Steps
