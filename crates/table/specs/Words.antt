-- The words of a table (document 01, "Words of a table"), for any prime p: n, c, k; of each block its start and its multiplier q;
-- of each cell its code and its schedule. Every definition reads any words: nothing is assumed of them.
use Rattle.std.specs.Prelude.{ℕ, ◌+◌, ◌*◌, ◌-◌, cond, List, eqb, get_or}
use Rattle.hash.specs.Hash.{hash_of}

-- the sizes: n codes, in as many blocks, and c cells; then the multiplier k
abbrev pub code_count : List ℕ → ℕ
code_count words = get_or words 0 0

abbrev pub cell_count : List ℕ → ℕ
cell_count words = get_or words 1 0

abbrev pub multiplier : List ℕ → ℕ
multiplier words = get_or words 2 0

-- the words of a table with n codes and c cells
abbrev pub total_of : ℕ → ℕ → ℕ
total_of n c = 3 + 2 * n + 2 * c

abbrev pub total : List ℕ → ℕ
total words = total_of (code_count words) (cell_count words)

-- where block j starts, counted in cells
abbrev pub block_start : List ℕ → ℕ → ℕ
block_start words j = get_or words (3 + j) 0

-- where block j ends: where the next one starts, the last at c
abbrev pub block_end : List ℕ → ℕ → ℕ
block_end words j = cond (eqb (j + 1) (code_count words)) (cell_count words) (get_or words (3 + (j + 1)) 0)

-- the multiplier q of block j
abbrev pub block_multiplier : List ℕ → ℕ → ℕ
block_multiplier words j = get_or words (3 + code_count words + j) 0

-- the code in cell i and its schedule, 0 where the cell is empty
abbrev pub cell_code : List ℕ → ℕ → ℕ
cell_code words i = get_or words (3 + 2 * code_count words + i) 0

abbrev pub cell_schedule : List ℕ → ℕ → ℕ
cell_schedule words i = get_or words (3 + 2 * code_count words + cell_count words + i) 0

-- the block that a code belongs to
unfoldable pub block_of : ℕ → List ℕ → ℕ → ℕ
block_of p words code = hash_of p (multiplier words) (code_count words) code

-- the cell of block j that is a code's own, counted over the whole table; its place is taken mod the block's end less its start
unfoldable pub cell_in : ℕ → List ℕ → ℕ → ℕ → ℕ
cell_in p words j code = block_start words j + hash_of p (block_multiplier words j) (block_end words j - block_start words j) code

-- a code's own cell
unfoldable pub own_cell : ℕ → List ℕ → ℕ → ℕ
unfolding block_of cell_in
own_cell p words code = cell_in p words (block_of p words code) code
