-- Pairs in groups by a digit, and what the functions that put pairs by rising code rely on.
pub mod Sorting
pub mod Listed
