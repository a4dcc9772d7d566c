-- In reading order: a list as text, and what reading and writing it answer and leave in lent memory.
pub mod Text
pub mod Lists
pub mod Answered
-- What the parts of the code rely on and promise.
pub mod code
