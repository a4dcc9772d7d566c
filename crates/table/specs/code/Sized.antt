-- The sizes of a table where conditions 12 to 15 of document 01 are ruled out, in propositions.
use Rattle.std.specs.Prelude.{ℕ, ◌+◌, ◌*◌, ◌<◌, ◌≤◌, Bool, false, cond, not, List, ◌≡◌, eqb, ltb, length}
use Rattle.hash.specs.declared.Hasher.{Hasher}
use Rattle.table.specs.Words.{code_count, cell_count, multiplier, total}
use Rattle.table.specs.Sizes.{bad_sizes}

pub record Sized (p limit : ℕ) (words : List ℕ) : Type 0 where
  -- 12
  pub few_codes : code_count words ≤ limit
  -- 13
  pub few_cells : 0 < code_count words → cell_count words + 2 ≤ 3 * code_count words
  pub no_cells : code_count words ≡ 0 → cell_count words ≡ 0
  -- 14
  pub from_one : 1 ≤ multiplier words
  pub below : multiplier words < p
  -- 15
  pub whole : total words ≤ length words

-- j is a block of a table that is whole
pub record Block (words : List ℕ) (j : ℕ) : Type 0 where
  pub whole : total words ≤ length words
  pub below : j < code_count words

-- i is a cell of a table that is whole
pub record Cell (words : List ℕ) (i : ℕ) : Type 0 where
  pub whole : total words ≤ length words
  pub below : i < cell_count words

-- the words between two cells of a table that is whole
pub record Part (words : List ℕ) (start end : ℕ) : Type 0 where
  pub whole : total words ≤ length words
  pub rises : start ≤ end
  pub below : end ≤ cell_count words

-- the sizes of a table with blocks: three words, n above 0, and none of 12 to 15
pub record WithBlocks (p limit : ℕ) (words : List ℕ) : Type 0 where
  pub three : 3 ≤ length words
  pub some : 0 < code_count words
  pub sizes : bad_sizes p limit words ≡ false

-- the same as a test
unfoldable pub has_blocks : ℕ → ℕ → List ℕ → Bool
has_blocks p limit words = cond (ltb (length words) 3) false (cond (eqb (code_count words) 0) false (not (bad_sizes p limit words)))

-- h is the hash of a table's codes into its blocks, of which there are some
pub record HashOf (words : List ℕ) (h : Hasher) : Type 0 where
  pub multiplier_is : h.multiplier ≡ multiplier words
  pub blocks_is : h.places ≡ code_count words
