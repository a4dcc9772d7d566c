-- In reading order: the answers and their numbers, the limits, pairs, and lists by their function.
pub mod Answers
pub mod Numbers
pub mod Limits
pub mod Pairs
pub mod Tabulate
-- What the parts of the code rely on and promise.
pub mod code
