-- What insert and remove answer, and the words that they leave.
pub mod Edit
pub mod Edited
-- What the parts of the code rely on and promise.
pub mod code
