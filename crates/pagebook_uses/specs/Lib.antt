pub mod First
pub mod Hall
pub mod Turns
pub mod Tickets
pub mod Promise
pub mod Shelf
