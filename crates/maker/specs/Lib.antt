-- The table file of a supplier's text.
pub mod Making
-- What the parts of the code promise.
pub mod code
