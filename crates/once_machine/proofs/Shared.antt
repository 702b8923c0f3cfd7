-- What holds of every world to which tasks lead that share a cell.
pub mod Adds
pub mod Unfinished
pub mod Asked
pub mod Queue
pub mod Slot
pub mod Places
pub mod Worlds
pub mod Copy
pub mod Reached
