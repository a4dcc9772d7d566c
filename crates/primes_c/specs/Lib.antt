-- A build for a prime that is given.
pub mod BuildFor
