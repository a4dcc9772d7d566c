-- Reading a table back (document 01, "Read back").
use Rattle.std.specs.Prelude.{ℕ, ◌+◌, ◌*◌, not, ◌||◌, List, [], ◌∷◌, ◌≡◌, eqb, ltb, length, take, drop}
use Rattle.prelude.specs.Answers.{Answer, given, refuse, or_refused, filled}
use Rattle.prelude.specs.Pairs.{Pair, codes_of, schedules_of, paired, pairs_where}
use Rattle.table.specs.Words.{code_count, cell_count}
use Rattle.sorting.specs.Rising.{rising}
use Rattle.audit.specs.Check.{check_of, all_codes}

-- the schedules of all cells
abbrev pub all_schedules : List ℕ → List ℕ
all_schedules words = take (cell_count words) (drop (3 + 2 * code_count words + cell_count words) words)

-- the pairs of the cells that hold a code, by rising cell
unfoldable pub stored : List ℕ → List ℕ → List Pair
unfolding paired pairs_where
stored codes schedules = pairs_where (λ a. not (eqb a 0)) (paired codes schedules)

-- the pairs of a table, by rising code
unfoldable pub pairs_in : List ℕ → List Pair
unfolding stored rising
pairs_in words = rising (stored (all_codes words) (all_schedules words))

-- the answer of reading back into these arrays
unfoldable pub pairs_of : ℕ → ℕ → List ℕ → List ℕ → List ℕ → Answer
unfolding check_of
pairs_of p limit words codes schedules =
    or_refused (check_of p limit words)
    (refuse (ltb (length codes) (code_count words) || ltb (length schedules) (code_count words)) 41 (code_count words)
    (given (code_count words ∷ [])))

-- the lent codes and schedules after reading back
abbrev pub codes_read : ℕ → ℕ → List ℕ → List ℕ → List ℕ → List ℕ
codes_read p limit words codes schedules = filled (pairs_of p limit words codes schedules) (codes_of (pairs_in words)) codes

abbrev pub schedules_read : ℕ → ℕ → List ℕ → List ℕ → List ℕ → List ℕ
schedules_read p limit words codes schedules = filled (pairs_of p limit words codes schedules) (schedules_of (pairs_in words)) schedules

-- the answer, and both lent arrays at exit
pub record PairsRead (p limit : ℕ) (words codes schedules : List ℕ) (answer : Answer) (codes' schedules' : List ℕ) : Type 0 where
  pub answers : answer ≡ pairs_of p limit words codes schedules
  pub codes_at_exit : codes' ≡ codes_read p limit words codes schedules
  pub schedules_at_exit : schedules' ≡ schedules_read p limit words codes schedules
