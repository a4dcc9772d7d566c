-- What a piece that is written leaves in lent memory, and what digits that are read come to.
pub mod Added
pub mod Put
pub mod Digits
