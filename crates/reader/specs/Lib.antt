-- In reading order: the pairs of an accepted table, and the paper's number for each answer.
pub mod Pairs
pub mod ReadBack
-- What the parts of the code rely on and promise.
pub mod code
