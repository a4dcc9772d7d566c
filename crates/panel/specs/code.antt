-- What a walk keeps.
pub mod Decided
