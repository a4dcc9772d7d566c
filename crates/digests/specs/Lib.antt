-- In reading order: the numbers of lent memory, and the digest of numbers.
pub mod Lent
pub mod Digest
