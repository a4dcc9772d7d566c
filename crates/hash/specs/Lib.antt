-- In reading order: the hash function and the least multiplier, and what is proved of them.
pub mod Hash
pub mod Theorems
-- What the functions answer.
pub mod code
