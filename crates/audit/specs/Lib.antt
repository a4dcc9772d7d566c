-- In reading order: what a check answers, the paper's number for each answer, and which tables are well-formed.
pub mod Check
pub mod Checked
pub mod WellFormed
-- What the parts of the code rely on and promise.
pub mod code
