-- Each input keeps the invariant, so every record is a run, and at every moment somebody was woken if somebody had to be.
pub mod Gone
pub mod Owner
pub mod Drops
pub mod Begins
pub mod Advances
pub mod Makes
pub mod Headline
