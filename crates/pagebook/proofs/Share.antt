-- What goes to other threads, and what a shared borrow is.
pub mod Twice
pub mod Keyless
pub mod Slots
