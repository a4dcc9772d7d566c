-- Each of the three primes is prime, and what sizes that pass tell.
pub mod ThreePrimes
pub mod Sizing
-- The table of a list: the words before the cells, what each cell holds, the multipliers that are taken, the codes' own cells, and what is read from the words.
pub mod Front
pub mod Held
pub mod Chosen
pub mod Own
pub mod Contents
pub mod Order
