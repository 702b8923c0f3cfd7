-- What the list of the waiters shows on the queue's page, and one move of the book for each moment.
pub mod Steps
pub mod Named
pub mod Looks
pub mod Lists
pub mod Releases
pub mod Mine
pub mod Forms
pub mod Facts
pub mod Moves
