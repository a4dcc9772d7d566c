-- In reading order: what a valid list is, and the refusals of one that is not.
pub mod Valid
pub mod List
