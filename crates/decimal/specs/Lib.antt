-- A number in decimal that is written, and one that is read.
pub mod Decimal
pub mod Number
-- What a piece that is written leaves in lent memory, and what digits that are read come to.
pub mod code
