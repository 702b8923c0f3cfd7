-- A whole call: each of its steps is a line of the table, and what they make of the record together.
pub mod Logs
pub mod Alike
pub mod Fits
pub mod Parts
pub mod Lines
pub mod Calls
pub mod Begins
pub mod Ends
pub mod Polls
pub mod Ways
