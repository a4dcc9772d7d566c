-- Looking a code up (document 01, "Look up"), for any prime p and limit on the codes of a table.
use Rattle.std.specs.Prelude.{ℕ, ◌-◌, cond, List, [], ◌∷◌, eqb, ltb, length}
use Rattle.prelude.specs.Answers.{Answer, given, absent, refuse, outside}
use Rattle.table.specs.Words.{code_count, cell_count, block_start, block_end, block_multiplier, cell_code, cell_schedule, block_of, cell_in}
use Rattle.table.specs.Sizes.{bad_sizes}

-- the answer from cell i, the one that the code can be in: its schedule and its cell (document 02, Change 4)
unfoldable pub in_cell : List ℕ → ℕ → ℕ → Answer
in_cell words code i =
    cond (eqb (cell_code words i) code)
    (refuse (outside 1 999 (cell_schedule words i)) 34 0
    (given (cell_schedule words i ∷ i ∷ [])))
    absent

-- the answer from block j, the code's own
unfoldable pub in_block : ℕ → List ℕ → ℕ → ℕ → Answer
unfolding cell_in in_cell
in_block p words code j =
    refuse (ltb (block_end words j) (block_start words j)) 34 0
    (refuse (ltb (cell_count words) (block_end words j)) 34 0
    (cond (eqb (block_start words j) (block_end words j)) absent
    (refuse (outside 1 (p - 1) (block_multiplier words j)) 34 0
    (in_cell words code (cell_in p words j code)))))

-- the answer of a lookup
unfoldable pub lookup_of : ℕ → ℕ → List ℕ → ℕ → Answer
unfolding bad_sizes block_of in_block
lookup_of p limit words code =
    refuse (outside 1 (p - 1) code) 31 0
    (refuse (ltb (length words) 3) 32 0
    (refuse (bad_sizes p limit words) 33 0
    (cond (eqb (code_count words) 0) absent
    (in_block p words code (block_of p words code)))))
