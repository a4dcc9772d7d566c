-- The words of a file one by one.
pub mod Words
