-- How a text is gone through.
pub mod Scan
