-- In reading order: lists part by part and one after the other, and the words of a table in any state; one block; the blocks of codes, the first words,
-- and the pairs gathered; the blocks that are listed and placed one after the other, and the whole.
mod Joined
mod Laid
mod Groups
mod Fronts
mod Gathering
mod Listing
mod Sharing
pub mod Totals
