-- What the parts of the code rely on and promise: the definition of a table is that of crate table.
pub mod code
