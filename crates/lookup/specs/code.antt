-- A branch-free lookup's answer in one word.
pub mod OneWord
