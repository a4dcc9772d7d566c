-- The words of a file, one by one, and its bytes.
pub mod WordLaws
pub mod ByteLaws
