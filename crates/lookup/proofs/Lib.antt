-- The steps of a lookup, what its answer tells, and the cell that a branch-free lookup reads.
pub mod Steps
pub mod Tells
pub mod Probing
