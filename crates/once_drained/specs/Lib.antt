pub mod Drained
pub mod Turn
