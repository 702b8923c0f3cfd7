-- Worked schedules, computed over the definitions.
pub mod Order
pub mod Tasks
pub mod Plain
pub mod Late
pub mod Holders
pub mod Calls
pub mod Passes
pub mod PassesLate
pub mod PassesOwned
pub mod Refused
pub mod Owners
pub mod ByHand
pub mod ByHandCalls
pub mod ByHandParts
pub mod Counts
pub mod Turns
