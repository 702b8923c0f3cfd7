-- Pages, one by one and in hands.
pub mod Parts
pub mod Hands
