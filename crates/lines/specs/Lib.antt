-- The lines that texts are made of.
pub mod Lines
