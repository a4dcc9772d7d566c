-- What the parts of the code rely on and promise: the definitions of k and q are those of crate table.
pub mod code
