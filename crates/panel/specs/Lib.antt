-- In reading order: a panel, and the paper's number for each case of its answer.
pub mod Panel
pub mod Fired
-- What the parts of the code promise.
pub mod code
