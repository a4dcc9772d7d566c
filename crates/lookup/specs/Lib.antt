-- In reading order: a lookup, and the paper's number for each case of its answer.
pub mod Lookup
pub mod Found
-- What the parts of the code rely on and promise.
pub mod code
