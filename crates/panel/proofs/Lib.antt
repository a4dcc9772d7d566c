-- The code that decides a panel, the steps of its walk, the tests before it, and its answers apart from each other.
pub mod Deciding
pub mod Walking
pub mod Past
pub mod FiredLaws
