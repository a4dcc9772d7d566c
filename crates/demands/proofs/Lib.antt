-- In reading order: the words that settle a lookup, and tables from anywhere; then the table of a list: its cells, that it is
-- well-formed, its multipliers, its lookups, its build, other orders of the list, and all together; edits; panels,
-- answers and cells; texts, test loads and files.
pub mod Settle
pub mod Within
pub mod Reading
pub mod RightAnswer
pub mod BuildingCells
pub mod BuildingWellFormed
pub mod BuildingTwoLevel
pub mod BuildingOnly
pub mod BuildingLookup
pub mod BuildingBuild
pub mod BuildingOrder
pub mod Building
pub mod Editing
pub mod Panels
pub mod Answering
pub mod Cells
pub mod Keeping
pub mod TextsWritten
pub mod Made
pub mod Texts
pub mod TestLoads
pub mod Files
pub mod Theorems
