-- Numbers that are drawn.
pub mod Owners
pub mod Steps
