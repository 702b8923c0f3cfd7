-- What stands for each task at each place, and what a step owes to keep it.
pub mod Facts
pub mod Fits
pub mod Listed
pub mod Kept
pub mod Turns
pub mod Calls
pub mod Moves
pub mod Around
pub mod AroundLists
