-- In the code's order: the pairs grouped by block, one block, the words, and the table of a valid list.
pub mod Grouping
pub mod Writing
pub mod Valid
