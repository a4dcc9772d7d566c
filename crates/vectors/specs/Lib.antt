-- The firings to compare by, and the first of a test load, as statements; proofs/ computes each.
pub mod Firings
pub mod Loads
