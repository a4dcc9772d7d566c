-- The sizes that lookup and the crates above rely on.
pub mod Sized
