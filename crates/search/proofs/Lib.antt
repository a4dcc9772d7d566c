-- In reading order: trying one multiplier after another, and the counting of codes from the last on.
pub mod Tries
pub mod Counts
pub mod LeastBlocks
pub mod PlacedLaws
pub mod Places
pub mod Taking
pub mod BlockCells
pub mod LeastCells
pub mod Twos
