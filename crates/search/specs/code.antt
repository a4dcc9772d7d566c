-- In reading order: what a search asks, the search for k, what the cells of one block hold, and the search for q.
pub mod Searchable
pub mod Blocks
pub mod Placed
pub mod Cells
