-- One move of the book for each moment.
pub mod Words
pub mod Locked
pub mod Calls
pub mod Slots
