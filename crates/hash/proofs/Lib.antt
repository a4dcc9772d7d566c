-- In reading order: numbers, sums, and what they give of the hash.
pub mod Words
pub mod Reciprocals
pub mod Primes
pub mod Indicators
pub mod Sums
pub mod Collisions
pub mod Counting
pub mod Members
pub mod Orders
pub mod Permuted
pub mod Multipliers
pub mod LeastLaws
pub mod Theorems
pub mod BitSets
