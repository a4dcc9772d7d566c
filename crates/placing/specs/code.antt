-- One block of more codes than one, in the words.
pub mod Block
