-- Lists of numbers and of listings whose wakers are numbers.
pub mod Handed
