-- Pairs in groups, how long groups are, how pairs are scattered into them, and digits.
pub mod Groups
pub mod Counts
pub mod Scattering
pub mod Halves
-- Pairs by rising code; groups that rise, and the loops that put pairs there.
pub mod Rising
pub mod Ordered
pub mod Placing
pub mod Digits
