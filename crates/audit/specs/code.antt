-- The blocks of a table, one block by itself, all of them, and the answer from a test on.
pub mod Starts
pub mod Ranges
pub mod Blocks
pub mod Places
pub mod From
