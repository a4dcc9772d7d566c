-- The tests in their order; then that none refuses exactly the valid lists.
mod Refusals
pub mod Valid
pub mod Answered
