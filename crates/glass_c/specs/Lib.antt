-- What C sees of the calls that fill lent memory.
pub mod Exports
