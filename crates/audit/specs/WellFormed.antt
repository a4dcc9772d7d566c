-- The well-formed tables (document 01, "Check"): none of 11 to 21 holds. In propositions, a field for each number.
use Rattle.std.specs.Prelude.{ℕ, ◌+◌, ◌*◌, ◌<◌, ◌≤◌, List, ◌↔◌, ◌≡◌, length}
use Rattle.table.specs.Words.{code_count, cell_count, multiplier, total, block_start, block_end, block_multiplier, cell_code, cell_schedule, block_of, own_cell}
use Rattle.audit.specs.Check.{codes_in, block_codes, all_codes}

pub record WellFormed (p limit : ℕ) (words : List ℕ) : Type 0 where
  -- 11
  pub three : 3 ≤ length words
  -- 12
  pub few_codes : code_count words ≤ limit
  -- 13
  pub few_cells : 0 < code_count words → cell_count words + 2 ≤ 3 * code_count words
  pub no_cells : code_count words ≡ 0 → cell_count words ≡ 0
  -- 14
  pub in_range : (1 ≤ multiplier words) × (multiplier words < p)
  -- 15
  pub whole : total words ≤ length words
  -- 16
  pub first_start : 0 < code_count words → block_start words 0 ≡ 0
  pub rising : (j : ℕ) → j + 1 < code_count words → block_start words j ≤ block_start words (j + 1)
  pub within : (j : ℕ) → j < code_count words → block_start words j ≤ cell_count words
  -- 17
  pub block_in_range : (j : ℕ) → j < code_count words → (1 ≤ block_multiplier words j) × (block_multiplier words j < p)
  -- 18
  pub code_in_range : (i : ℕ) → i < cell_count words → cell_code words i < p
  pub schedule_in_range : (i : ℕ) → i < cell_count words → cell_schedule words i ≤ 999
  pub both_or_none : (i : ℕ) → i < cell_count words → (cell_code words i ≡ 0) ↔ (cell_schedule words i ≡ 0)
  -- 19
  pub has_cells :
      (i : ℕ) → i < cell_count words → 0 < cell_code words i
      → block_start words (block_of p words (cell_code words i)) < block_end words (block_of p words (cell_code words i))
  pub own : (i : ℕ) → i < cell_count words → 0 < cell_code words i → own_cell p words (cell_code words i) ≡ i
  -- 20
  pub square :
      (j : ℕ) → j < code_count words
      → block_end words j ≡ block_start words j + codes_in (block_codes words j) * codes_in (block_codes words j)
  -- 21
  pub all_codes : codes_in (all_codes words) ≡ code_count words
