-- The answer of a check from a test on, for tables that pass those before it.
use Rattle.std.specs.Prelude.{ℕ, not, List, [], ◌∷◌, eqb}
use Rattle.prelude.specs.Answers.{Answer, given, refuse, refuse_first}
use Rattle.table.specs.Words.{code_count, cell_count, total}
use Rattle.audit.specs.Check.{bad_start, bad_block_multiplier, bad_cell, misplaced, bad_square, codes_in, all_codes}

-- from 21 on
unfoldable pub from_count : List ℕ → Answer
unfolding codes_in
from_count words =
    refuse (not (eqb (codes_in (all_codes words)) (code_count words))) 21 (codes_in (all_codes words))
    (given (code_count words ∷ total words ∷ []))

-- from 19 on
unfoldable pub from_places : ℕ → List ℕ → Answer
unfolding misplaced bad_square from_count
from_places p words =
    refuse_first (cell_count words) (misplaced p words) 19
    (refuse_first (code_count words) (bad_square words) 20
    (from_count words))

-- from 16 on
unfoldable pub from_starts : ℕ → List ℕ → Answer
unfolding bad_start bad_block_multiplier bad_cell from_places
from_starts p words =
    refuse_first (code_count words) (bad_start words) 16
    (refuse_first (code_count words) (bad_block_multiplier p words) 17
    (refuse_first (cell_count words) (bad_cell p words) 18
    (from_places p words)))
