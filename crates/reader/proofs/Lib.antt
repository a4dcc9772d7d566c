-- In reading order: the cells that hold a code, the cells and the pairs of a table; reading them back.
pub mod Stored
pub mod Cells
pub mod PairLaws
pub mod Gathering
pub mod Written
pub mod Reading
