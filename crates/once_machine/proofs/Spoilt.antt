-- Records and logs with one thing wrong are none.
pub mod Records
pub mod Rights
pub mod Calls
pub mod Ends
pub mod Refusals
pub mod Wakers
pub mod Passes
pub mod Logs
pub mod Parts
pub mod Lines
pub mod Promises
pub mod Turns
pub mod Opened
