-- The two-level table of a list with the least multipliers (document 01, "The two-level table" and "Words of a table"), for any prime p.
use Rattle.std.specs.Prelude.{ℕ, ◌+◌, ◌*◌, List, [], ◌∷◌, ◌++◌, eqb, leb, length}
use Rattle.hash.specs.Hash.{load, members, together, sum, cells, least}
use Rattle.prelude.specs.Pairs.{paired, value_where}
use Rattle.prelude.specs.Tabulate.{tabulate}
use Rattle.table.specs.Words.{own_cell}

-- k: 1 for the empty list, otherwise the least multiplier that keeps c at most 3n - 2
unfoldable pub blocks_multiplier : ℕ → List ℕ → ℕ
blocks_multiplier p [] = 1
blocks_multiplier p (a ∷ s) = least (λ k. leb (cells p k (a ∷ s) + 2) (3 * length (a ∷ s))) p

-- q of a block with these codes: the least multiplier that puts them in different cells; 1 for none
unfoldable pub cells_multiplier : ℕ → List ℕ → ℕ
cells_multiplier p block = least (λ q. eqb (together p q (length block * length block) block) 0) p

-- where block j starts: after the cells, load × load, of each block before it
unfoldable pub start_of : ℕ → ℕ → List ℕ → ℕ → ℕ
start_of p k codes j = sum (λ t. load p k (length codes) t codes * load p k (length codes) t codes) j

-- the words before the cells: n, c, k, the starts and the q's
unfoldable pub front_with : ℕ → ℕ → List ℕ → List ℕ
unfolding start_of cells_multiplier
front_with p k codes =
    (length codes ∷ cells p k codes ∷ k ∷ [])
    ++ (tabulate (start_of p k codes) (length codes)
    ++ tabulate (λ j. cells_multiplier p (members p k (length codes) j codes)) (length codes))

unfoldable pub front_of : ℕ → List ℕ → List ℕ
unfolding front_with blocks_multiplier
front_of p codes = front_with p (blocks_multiplier p codes) codes

-- what cell i holds, where each code has a cell: the value listed with the code whose cell it is, 0 where there is none
unfoldable pub held_at : (ℕ → ℕ) → List ℕ → List ℕ → ℕ → ℕ
unfolding paired value_where
held_at cell codes values i = value_where (λ a. eqb (cell a) i) (paired codes values)

-- the table after its front: the codes of c cells, and their schedules
unfoldable pub table_with : ℕ → List ℕ → ℕ → List ℕ → List ℕ → List ℕ
unfolding own_cell held_at
table_with p front c codes schedules =
    front ++ (tabulate (held_at (own_cell p front) codes codes) c ++ tabulate (held_at (own_cell p front) codes schedules) c)

-- the c of a list, and the total of its table
unfoldable pub cells_of : ℕ → List ℕ → ℕ
unfolding blocks_multiplier
cells_of p codes = cells p (blocks_multiplier p codes) codes

unfoldable pub words_needed : ℕ → List ℕ → ℕ
unfolding cells_of
words_needed p codes = 3 + 2 * length codes + 2 * cells_of p codes

-- the table of a list
unfoldable pub table_of : ℕ → List ℕ → List ℕ → List ℕ
unfolding front_of table_with cells_of
table_of p codes schedules = table_with p (front_of p codes) (cells_of p codes) codes schedules
