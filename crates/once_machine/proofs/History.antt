-- What an entry changes, and the listings against the history.
pub mod Others
pub mod Cells
pub mod Waiters
