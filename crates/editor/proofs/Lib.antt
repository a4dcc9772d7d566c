-- In reading order: the pairs without a code; the same pairs in another order; the changed list
-- and its table; then the outcome of an edit, test after test.
pub mod Others
pub mod Reordered
mod Changed
pub mod Edits
mod Outcomes
