-- A number below a bound, and the numbers that pass a test.
pub mod Within
pub mod Choice
