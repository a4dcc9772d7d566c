-- Conditions 19 and 20 block by block.
use Rattle.std.specs.Prelude.{ℕ, ◌+◌, ◌-◌, ◌<◌, Bool, ◌||◌, List, ◌≡◌, eqb, ltb, length, get_or}
use Rattle.prelude.specs.Answers.{some}
use Rattle.table.specs.Words.{code_count, block_start, block_end}
use Rattle.prelude.specs.code.Choice.{chosen}
use Rattle.audit.specs.Check.{misplaced, bad_square}

abbrev pub cells_of : List ℕ → ℕ → ℕ
cells_of words j = block_end words j - block_start words j

-- 19 holds of a cell of block j, or 20 of the block
unfoldable pub unsound : ℕ → List ℕ → ℕ → Bool
unfolding misplaced bad_square
unsound p words j = some (cells_of words j) (λ t. misplaced p words (block_start words j + t)) || bad_square words j

-- the listed numbers, counted from the first of a run on, are blocks of the table
pub record InRun (words : List ℕ) (from : ℕ) (list : List ℕ) : Type 0 where
  pub below : (x : ℕ) → x < length list → from + get_or list x 0 < code_count words

-- and have one cell each
pub record OneEach (words : List ℕ) (from : ℕ) (list : List ℕ) : Type 0 where
  pub one_cell : (x : ℕ) → x < length list → cells_of words (from + get_or list x 0) ≡ 1

-- one of them is unsound
abbrev pub some_listed : ℕ → List ℕ → ℕ → List ℕ → Bool
some_listed p words from list = some (length list) (λ x. unsound p words (from + get_or list x 0))

-- the blocks of one cell and those of more, counted from the first of a run on
pub record BlocksListed (words : List ℕ) (from to : ℕ) (ones more : List ℕ) : Type 0 where
  pub ones_are : ones ≡ chosen (λ t. eqb (cells_of words (from + t)) 1) (to - from)
  pub more_are : more ≡ chosen (λ t. ltb 1 (cells_of words (from + t))) (to - from)
