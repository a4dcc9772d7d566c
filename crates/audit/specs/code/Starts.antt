-- What the code that tests for faults relies on and promises.
use Rattle.std.specs.Prelude.{ℕ, ◌+◌, ◌<◌, ◌≤◌, List, ◌≡◌}
use Rattle.table.specs.Words.{code_count, cell_count, block_start}

-- none of 13 and 16 holds: the blocks follow one another from cell 0 to cell c
pub record Starts (words : List ℕ) : Type 0 where
  pub none : code_count words ≡ 0 → cell_count words ≡ 0
  pub first : 0 < code_count words → block_start words 0 ≡ 0
  pub rising : (j : ℕ) → j + 1 < code_count words → block_start words j ≤ block_start words (j + 1)
  pub within : (j : ℕ) → j < code_count words → block_start words j ≤ cell_count words
