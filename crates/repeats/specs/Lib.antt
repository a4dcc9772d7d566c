-- A code equal to an earlier one.
pub mod Repeated
-- What the parts of the code rely on and promise.
pub mod code
