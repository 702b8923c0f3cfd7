pub mod Pages
pub mod Owned
pub mod Slot
pub mod LockRows
pub mod Prelude
