-- In reading order: what reading a text answers and leaves, what a build does, and the bytes that are made.
mod Reading
mod Building
pub mod MakeLaws
