-- What the parts of the code rely on and promise.
pub mod code
