-- In reading order: the three primes, the words of a table, the table of a list, and the sizes that no table has.
pub mod Primes
pub mod Words
pub mod TwoLevel
pub mod Sizes
-- What the parts of the code rely on and promise.
pub mod code
