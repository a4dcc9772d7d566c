-- Gathering the pairs of some cells: what the code that does it relies on and promises.
use Rattle.std.specs.Prelude.{ℕ, ◌+◌, Bool, cond, not, ◌&&◌, List, [], ◌∷◌, ◌≡◌, eqb, length}
use Rattle.prelude.specs.Pairs.{Pair, codes_of, schedules_of, pairs_where}
use Rattle.reader.specs.Pairs.{stored}

-- a cell with word a holds a code other than this one
abbrev pub is_other : ℕ → ℕ → Bool
is_other code a = not (eqb a 0) && not (eqb a code)

-- how many cells do
unfoldable pub other_count : ℕ → List ℕ → ℕ
other_count code [] = 0
other_count code (a ∷ cells) = cond (is_other code a) 1 0 + other_count code cells

-- the pairs of such cells, by rising cell
unfoldable pub others : ℕ → List ℕ → List ℕ → List Pair
unfolding stored pairs_where
others code cells held = pairs_where (λ a. not (eqb a code)) (stored cells held)

-- two lists with a place for each such pair
pub record Gatherable (code : ℕ) (cells held codes schedules : List ℕ) : Type 0 where
  pub same : length held ≡ length cells
  pub codes_long : length codes ≡ length (others code cells held)
  pub schedules_long : length schedules ≡ length (others code cells held)

-- two lists hold these pairs
pub record Gathered (pairs : List Pair) (codes schedules : List ℕ) : Type 0 where
  pub codes_are : codes ≡ codes_of pairs
  pub schedules_are : schedules ≡ schedules_of pairs
