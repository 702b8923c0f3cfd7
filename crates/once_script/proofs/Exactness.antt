-- One step of the code is one step of the machine, and so is a replay.
pub mod Outcomes
pub mod Calls
pub mod Exact
pub mod Worlds
pub mod Idle
