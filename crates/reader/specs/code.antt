-- Gathering the pairs of cells, and what the parts of read back write.
pub mod Gathering
pub mod Writing
