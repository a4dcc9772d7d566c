-- What the theorems speak of: other orders of a list, the right answer to a code, and the words that settle it.
use Rattle.std.specs.Prelude.{ℕ, ◌+◌, ◌*◌, ◌-◌, ◌<◌, ◌≤◌, cond, List, [], ◌∷◌, ◌++◌, ◌≡◌, eqb, ltb, length, get_or}
use Rattle.prelude.specs.Answers.{Answer, given, absent, first_of}
use Rattle.prelude.specs.Pairs.{among, paired, value_where}
use Rattle.table.specs.Words.{code_count, cell_count, block_start, block_end, cell_code, block_of, own_cell}
use Rattle.lookup.specs.Lookup.{lookup_of}

-- a pair stands in a list
pub record Listed (codes schedules : List ℕ) (a s : ℕ) : Type 0 where
  pub index : ℕ
  pub in_list : index < length codes
  pub code_there : get_or codes index 0 ≡ a
  pub schedule_there : get_or schedules index 0 ≡ s

-- another order of the same pairs: each of the two lists has exactly the other's pairs
pub record SamePairs (codes schedules codes' schedules' : List ℕ) : Type 0 where
  pub there : (a s : ℕ) → Listed codes schedules a s → Listed codes' schedules' a s
  pub back : (a s : ℕ) → Listed codes' schedules' a s → Listed codes schedules a s

-- a lookup finds the code with this schedule, in some cell
abbrev pub FoundWith : ℕ → ℕ → List ℕ → ℕ → ℕ → Type 0
FoundWith p limit words a s = (i : ℕ) × (lookup_of p limit words a ≡ given (s ∷ i ∷ []))

-- the cell of a table whose code it is: the first, where there are several
unfoldable pub cell_with : List ℕ → ℕ → ℕ
unfolding first_of
cell_with words a = first_of (cell_count words) (λ i. eqb (cell_code words i) a)

-- the right answer to a code, in the table of a list: found with its listed schedule, in the cell whose code it is, if it is listed; otherwise absent
unfoldable pub right_answer : List ℕ → List ℕ → List ℕ → ℕ → Answer
unfolding among paired value_where cell_with
right_answer codes schedules words a =
    cond (among a codes) (given (value_where (eqb a) (paired codes schedules) ∷ cell_with words a ∷ [])) absent

-- words that are enough for any list of n pairs: 8n - 1, and 3 for none
unfoldable pub enough : ℕ → ℕ
enough n = cond (eqb n 0) 3 (8 * n - 1)

-- two runs of words agree at these positions
abbrev pub AgreeAt : List ℕ → List ℕ → List ℕ → Type 0
AgreeAt positions words other = (i : ℕ) → i < length positions → get_or other (get_or positions i 0) 0 ≡ get_or words (get_or positions i 0) 0

-- the words that a lookup depends on: n, c, k; the start of the code's block, its end and its q; the code and the schedule of one cell
unfoldable pub looked_at : ℕ → List ℕ → ℕ → List ℕ
unfolding block_of own_cell
looked_at p words code =
    (0 ∷ 1 ∷ 2 ∷ [])
    ++ (cond (eqb (code_count words) 0) []
    ((3 + block_of p words code)
    ∷ cond (eqb (block_of p words code + 1) (code_count words)) 1 (3 + (block_of p words code + 1))
    ∷ (3 + code_count words + block_of p words code)
    ∷ cond (ltb (block_start words (block_of p words code)) (block_end words (block_of p words code)))
    ((3 + 2 * code_count words + own_cell p words code) ∷ (3 + 2 * code_count words + cell_count words + own_cell p words code) ∷ [])
    []))

-- every number of a list is a word
abbrev pub AllWords : List ℕ → Type 0
AllWords numbers = (i : ℕ) → i < length numbers → get_or numbers i 0 ≤ 4294967295

-- every number of a list is a byte
abbrev pub AllBytes : List ℕ → Type 0
AllBytes numbers = (i : ℕ) → i < length numbers → get_or numbers i 0 ≤ 255
