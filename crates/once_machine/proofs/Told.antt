-- What the book of a cell tells at every moment.
pub mod Log
pub mod Beginnings
pub mod Laws
pub mod Value
pub mod Queues
pub mod Wakers
pub mod Listings
