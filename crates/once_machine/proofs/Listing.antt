-- Lists of listings and of numbers, each module on those above it:
--   Members      whether a number stands in a list, and whether one stands there twice
--   Tickets      which tickets listings have, and what taking one out, adding one and waking the first leave of them
--   Kept         the same if listings lie among holes
--   Uncalled     the first listing that was not woken yet
--   Repeats      what is left if each waker that is the same as one before is taken away
--   AllOther     listings of which each two wakers were told to be other
--   Marked       which numbers are marked, and which is the first that is not
--   Least        the least number that is not in a list
--   Once         no ticket stands in a list twice
--   Counting     how many numbers of a list lie below a bound
--   Listings, CalledFirst, AllOut, Apart    listings whose wakers are numbers: what a wake, a fill and a section hand out
-- Kept, Uncalled, Marked and Least carry the clauses of `Slots`, as of `find`, `push`, `take_out` and `free_ticket`.
-- Tickets and AllOther carry those of `Lists`, and Repeats that of `once_each`.
pub mod Members
pub mod Tickets
pub mod Kept
pub mod Uncalled
pub mod Repeats
pub mod AllOther
pub mod Marked
pub mod Least
pub mod Once
pub mod Counting
pub mod Listings
pub mod CalledFirst
pub mod AllOut
pub mod Apart
