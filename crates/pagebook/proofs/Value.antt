-- The values of the machine that are made, and the place of one in a `Some`.
pub mod Made
pub mod Slots
pub mod InSome
