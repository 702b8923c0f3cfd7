-- The ghost state of a book.
pub mod Codes
pub mod Prefixes
pub mod Steps
pub mod Opening
pub mod Unchanged
pub mod Untold
