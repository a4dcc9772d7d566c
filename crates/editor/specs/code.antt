-- The changed list of an old table, and the answer from a test on.
pub mod Changes
pub mod Editing
