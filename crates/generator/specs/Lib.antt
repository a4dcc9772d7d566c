-- In reading order: a test load, what generating one answers and leaves in lent memory, and the paper's number for each case of its answer.
pub mod TestLoad
pub mod Generated
-- What the parts of the code rely on and promise.
pub mod code
