-- What the listing program leaves in lent memory.
pub mod Input
