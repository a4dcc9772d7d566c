-- The lines one by one.
pub mod Lines
