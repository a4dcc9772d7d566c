-- The first line; the text of a file; the listings to compare by.
pub mod HeadLaws
pub mod FileLaws
pub mod Printed
