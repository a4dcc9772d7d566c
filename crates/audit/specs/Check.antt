-- The check of a table from anywhere (document 01, "Check"), for any prime p and limit on its codes.
use Rattle.std.specs.Prelude.{ℕ, ◌+◌, ◌*◌, ◌-◌, Bool, not, cond, ◌&&◌, ◌||◌, List, [], ◌∷◌, eqb, ltb, length, take, drop}
use Rattle.std.specs.Bool.{beq}
use Rattle.prelude.specs.Answers.{Answer, given, refuse, refuse_first, outside}
use Rattle.table.specs.Words.{code_count, cell_count, total, block_start, block_end, block_multiplier, cell_code, cell_schedule, block_of, own_cell}
use Rattle.table.specs.Sizes.{too_many_codes, too_many_cells, bad_multiplier, too_short}

-- condition 16: block 0 does not start at 0, or a start is below the one before or above c
unfoldable pub bad_start : List ℕ → ℕ → Bool
bad_start words j =
    cond (eqb j 0) (not (eqb (block_start words j) 0)) (ltb (block_start words j) (block_start words (j - 1)))
    || ltb (cell_count words) (block_start words j)

-- condition 17: a q outside 1 to p - 1, empty blocks included
unfoldable pub bad_block_multiplier : ℕ → List ℕ → ℕ → Bool
bad_block_multiplier p words j = outside 1 (p - 1) (block_multiplier words j)

-- condition 18: a code above p - 1, a schedule above 999, or exactly one of the two 0
unfoldable pub bad_cell : ℕ → List ℕ → ℕ → Bool
bad_cell p words i =
    ltb (p - 1) (cell_code words i)
    || (ltb 999 (cell_schedule words i)
    || not (beq (eqb (cell_code words i) 0) (eqb (cell_schedule words i) 0)))

-- condition 19: a code in a cell that is not its own; a code whose block has no cells has none of its own
unfoldable pub misplaced : ℕ → List ℕ → ℕ → Bool
unfolding block_of own_cell
misplaced p words i =
    not (eqb (cell_code words i) 0)
    && (eqb (block_start words (block_of p words (cell_code words i))) (block_end words (block_of p words (cell_code words i)))
    || not (eqb (own_cell p words (cell_code words i)) i))

-- how many cells of a run hold a code
unfoldable pub codes_in : List ℕ → ℕ
codes_in [] = 0
codes_in (a ∷ cells) = cond (eqb a 0) 0 1 + codes_in cells

-- the codes of the cells of block j, and of all cells
abbrev pub block_codes : List ℕ → ℕ → List ℕ
block_codes words j = take (block_end words j - block_start words j) (drop (3 + 2 * code_count words + block_start words j) words)

abbrev pub all_codes : List ℕ → List ℕ
all_codes words = take (cell_count words) (drop (3 + 2 * code_count words) words)

-- condition 20: the cells of block j do not number the square of its codes
unfoldable pub bad_square : List ℕ → ℕ → Bool
unfolding codes_in
bad_square words j = not (eqb (block_end words j - block_start words j) (codes_in (block_codes words j) * codes_in (block_codes words j)))

-- the answer of a check
unfoldable pub check_of : ℕ → ℕ → List ℕ → Answer
unfolding bad_start bad_block_multiplier bad_cell misplaced codes_in bad_square
check_of p limit words =
    refuse (ltb (length words) 3) 11 0
    (refuse (too_many_codes limit words) 12 0
    (refuse (too_many_cells words) 13 0
    (refuse (bad_multiplier p words) 14 0
    (refuse (too_short words) 15 (total words)
    (refuse_first (code_count words) (bad_start words) 16
    (refuse_first (code_count words) (bad_block_multiplier p words) 17
    (refuse_first (cell_count words) (bad_cell p words) 18
    (refuse_first (cell_count words) (misplaced p words) 19
    (refuse_first (code_count words) (bad_square words) 20
    (refuse (not (eqb (codes_in (all_codes words)) (code_count words))) 21 (codes_in (all_codes words))
    (given (code_count words ∷ total words ∷ []))))))))))))
