-- In reading order: lists from the last element on, pairs that are together, codes in too few blocks, and runs of multipliers.
pub mod Ends
pub mod Together
pub mod Crowding
pub mod Beginning
pub mod Straight
pub mod Keys
pub mod Passing
