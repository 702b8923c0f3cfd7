-- What follows of a run alone.
pub mod Passed
pub mod Unmade
pub mod Nobody
pub mod Called
pub mod Rights
pub mod Freed
pub mod Answered
pub mod Holder
pub mod Crowded
pub mod Values
pub mod Filled
pub mod Given
pub mod GoesOn
pub mod Wakes
