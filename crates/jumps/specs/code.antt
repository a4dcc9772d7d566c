-- In reading order: multipliers that are passed over by runs, and those before a list's start.
pub mod Jumps
pub mod Starts
