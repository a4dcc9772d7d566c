-- What is written of a text or a list, or its error.
pub mod Errors
