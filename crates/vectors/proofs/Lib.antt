pub mod Firings
pub mod Loads
