-- How long the lines are, and the lines of pairs one by one.
pub mod LineLaws
