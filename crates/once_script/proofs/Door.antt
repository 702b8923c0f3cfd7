-- The queue log, and when a queue stands at the door.
pub mod Logs
pub mod Logged
pub mod Late
pub mod Doors
