-- In reading order: sizes, counting codes, the blocks as a partition of the cells, what passes each test; a block's test, by the places that hold a code;
-- the part of the words that a block is, and what is told of all blocks at once; then the tables that a check accepts, what
-- its answer says, and what is looked up in an accepted table.
pub mod Bounds
pub mod Counting
pub mod Partition
pub mod Passing
pub mod Occupied
pub mod Parts
pub mod Sound
pub mod WellFormed
pub mod Answered
pub mod Lookups
