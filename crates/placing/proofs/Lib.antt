-- In reading order: lists written part by part, values at their places, and one block in the words.
pub mod Parts
pub mod Placing
pub mod Blocks
