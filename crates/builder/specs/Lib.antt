-- What a build answers, and the words that it leaves.
pub mod Build
pub mod Built
