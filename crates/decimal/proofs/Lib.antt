-- Pieces written one after the other, the digits of a number, and numbers that are read.
pub mod Added
pub mod Decimal
pub mod Numbers
