-- The sizes of a table: conditions 12 to 15 (document 01, "Check"), which a lookup tells as 33, for any prime p and limit on the codes of a table.
use Rattle.std.specs.Prelude.{ℕ, ◌*◌, ◌-◌, Bool, cond, ◌||◌, List, eqb, ltb, length}
use Rattle.prelude.specs.Answers.{outside}
use Rattle.table.specs.Words.{code_count, cell_count, multiplier, total}

-- condition 12: n above the limit
abbrev pub too_many_codes : ℕ → List ℕ → Bool
too_many_codes limit words = ltb limit (code_count words)

-- condition 13: c above 3n - 2, or above 0 where n is 0
abbrev pub too_many_cells : List ℕ → Bool
too_many_cells words = cond (eqb (code_count words) 0) (ltb 0 (cell_count words)) (ltb (3 * code_count words - 2) (cell_count words))

-- condition 14: k outside 1 to p - 1
abbrev pub bad_multiplier : ℕ → List ℕ → Bool
bad_multiplier p words = outside 1 (p - 1) (multiplier words)

-- condition 15: fewer words than the total
abbrev pub too_short : List ℕ → Bool
too_short words = ltb (length words) (total words)

-- any condition of 12 to 15
unfoldable pub bad_sizes : ℕ → ℕ → List ℕ → Bool
bad_sizes p limit words = too_many_codes limit words || (too_many_cells words || (bad_multiplier p words || too_short words))
