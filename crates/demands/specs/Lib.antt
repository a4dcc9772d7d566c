-- What the statements speak of, and the statements.
pub mod Lists
pub mod Answered
pub mod Panels
pub mod Theorems
