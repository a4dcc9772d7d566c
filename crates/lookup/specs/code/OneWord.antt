-- A branch-free lookup: its answer in one word of 64 bits with a cell beside it, and the cell that it comes from.
use Rattle.std.specs.Prelude.{ℕ, max, ◌+◌, ◌*◌, ◌-◌, ◌/◌, ◌%◌, Bool, cond, ◌||◌, List, [], ◌∷◌, eqb, ltb, get_or}
use Rattle.hash.specs.Hash.{hash_of}
use Rattle.prelude.specs.Answers.{Answer, given, absent, refused, refuse, outside}
use Rattle.table.specs.Words.{code_count, cell_count}

-- the answer that a word holds: a schedule in the upper half, over 0, in the cell beside it; otherwise 1000 for absent, or a refusal's number
unfoldable pub word_answer : ℕ → ℕ → Answer
word_answer word cell =
    cond (eqb (word % 4294967296) 0) (given (word / 4294967296 ∷ cell ∷ []))
    (cond (eqb word 1000) absent
    (refused (word % 4294967296) (word / 4294967296)))

-- the answer from a block of m cells, where the code's own cell has these words
unfoldable pub cell_answer : ℕ → ℕ → ℕ → ℕ → ℕ → Answer
cell_answer m code stored schedule cell =
    cond (eqb m 0) absent
    (cond (eqb stored code)
    (refuse (outside 1 999 schedule) 34 0
    (given (schedule ∷ cell ∷ [])))
    absent)

-- the index of the word with the code of a cell, in a table of n codes; 0 where the block has no cells
unfoldable pub cell_at : ℕ → ℕ → ℕ → ℕ
cell_at n m cell = cond (eqb m 0) 0 (3 + 2 * n + cell)

-- the answer from the m cells from a start on, by the multiplier q
unfoldable pub probe_answer : ℕ → List ℕ → ℕ → ℕ → ℕ → ℕ → Answer
unfolding cell_answer cell_at
probe_answer p words code start m q =
    let cell = start + hash_of p q (max 1 m) code in
    let at = cell_at (code_count words) m cell in
    cell_answer m code (get_or words at 0) (get_or words (at + cell_count words) 0) cell

-- a lookup ends before it reads a cell of the block
unfoldable pub unreadable : ℕ → ℕ → ℕ → ℕ → ℕ → Bool
unreadable p c start end q = ltb end start || (ltb c end || outside 1 (p - 1) q)
