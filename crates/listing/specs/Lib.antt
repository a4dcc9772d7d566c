-- In reading order: the text that lists a table file, and listings to compare by.
pub mod Listing
pub mod Printed
-- What the parts of the code promise.
pub mod code
