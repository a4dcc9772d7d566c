-- The words of a file's bytes, and the bytes of words.
pub mod Bytes
-- What the parts of the code promise.
pub mod code
