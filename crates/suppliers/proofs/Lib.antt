-- The lines of a text one by one, going through them, and filling. Then texts of lists, what reading any text answers and leaves, and the answers of
-- reading and writing by their tests.
pub mod LineLaws
pub mod Places
pub mod Judging
pub mod Filling
pub mod TextLaws
pub mod ReadLaws
pub mod Answers
pub mod Writing
