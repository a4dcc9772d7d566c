-- The words of a table while they are written: in every state a number for each block's start and one for its multiplier, and its cells, for the codes and
-- for the schedules.
use Rattle.std.specs.Prelude.{ℕ, zero, suc, ◌+◌, ◌*◌, ◌-◌, ◌≤◌, List, [], ◌∷◌, ◌++◌, ◌≡◌, length, get_or, drop, set, replicate}
use Rattle.hash.specs.Hash.{load, cells}
use Rattle.prelude.specs.Tabulate.{tabulate}
use Rattle.table.specs.TwoLevel.{start_of, cells_multiplier}
use Rattle.search.specs.code.Cells.{filled_by}
use Rattle.search.specs.code.Placed.{values_of}
use Rattle.search.specs.code.Searchable.{Searchable}
use Rattle.placing.specs.code.Block.{codes_at, schedules_at, put_at}
use Rattle.writer.specs.code.Grouping.{start_at}
use Rattle.placing.specs.declared.Block.{Block}
use Rattle.writer.specs.declared.write.Shape.{Shape}

-- f 0, f 1, .., f (n - 1), one after the other
unfoldable pub joined : (ℕ → List ℕ) → ℕ → List ℕ
joined f zero = []
joined f (suc n) = joined f n ++ f n

abbrev pub laid : Shape → (ℕ → ℕ) → (ℕ → ℕ) → (ℕ → List ℕ) → (ℕ → List ℕ) → List ℕ
laid shape starts multipliers codes schedules =
    (shape.codes ∷ shape.cells ∷ shape.multiplier ∷ [])
    ++ (tabulate starts shape.codes
    ++ (tabulate multipliers shape.codes ++ (joined codes shape.codes ++ joined schedules shape.codes)))

-- words that begin with n, c and k, and are 0 after them
abbrev pub headed : ℕ → ℕ → ℕ → ℕ → List ℕ
headed n c k size = n ∷ c ∷ k ∷ replicate (size - 3) 0

-- codes, the cells that k gives them, not too many, and a schedule for each
pub record Writable (shape : Shape) (codes schedules : List ℕ) : Type 0 where
  pub searchable : Searchable shape.prime codes
  pub codes_are : shape.codes ≡ length codes
  pub cells_are : shape.cells ≡ cells shape.prime shape.multiplier codes
  pub few_cells : shape.cells ≤ 3 * length codes
  pub parallel : length schedules ≡ length codes

-- before the first pair: where the codes of each block end, the multiplier 1, and empty cells
abbrev pub empty_cells : List ℕ → ℕ → List ℕ
empty_cells loads j = replicate (get_or loads j 0 * get_or loads j 0) 0

abbrev pub begun : Shape → List ℕ → List ℕ
begun shape loads = laid shape (λ j. start_at loads j + get_or loads j 0) (λ j. 1) (empty_cells loads) (empty_cells loads)

-- how many of the pairs from i on belong to block j
abbrev pub load_from : ℕ → ℕ → List ℕ → ℕ → ℕ → ℕ
load_from p k codes i j = load p k (length codes) j (drop i codes)

-- the places in block j before the pairs from i on: as many as pairs are missing
abbrev pub missing : ℕ → ℕ → List ℕ → ℕ → ℕ → ℕ
missing p k codes i j = load p k (length codes) j codes - load_from p k codes i j

-- with the pairs from i on in the first cells of their blocks, in the list's order: the first of them stands where it will when none is missing
abbrev pub start_from : ℕ → ℕ → List ℕ → ℕ → ℕ → ℕ
start_from p k codes i j = start_of p k codes j + missing p k codes i j

abbrev pub cells_from : ℕ → ℕ → List ℕ → List ℕ → ℕ → ℕ → List ℕ
cells_from p k codes values i j =
    replicate (missing p k codes i j) 0
    ++ (values_of p k (length codes) j (drop i codes) (drop i values)
    ++ replicate (load p k (length codes) j codes * load p k (length codes) j codes - load p k (length codes) j codes) 0)

abbrev pub table_from : Shape → List ℕ → List ℕ → ℕ → List ℕ
table_from shape codes schedules i =
    laid shape (start_from shape.prime shape.multiplier codes i) (λ j. 1) (cells_from shape.prime shape.multiplier codes codes i)
    (cells_from shape.prime shape.multiplier codes schedules i)

-- block j in the words, once its pairs are gathered
abbrev pub block_at : Shape → List ℕ → ℕ → List ℕ → Block
block_at shape loads j words =
    record { start = 3 + shape.codes + shape.codes + get_or words (3 + j) 0; codes = get_or loads j 0; cells = shape.cells }

-- the words with the block's pairs placed, and its multiplier
abbrev pub block_in : Shape → Block → ℕ → List ℕ → List ℕ
block_in shape b j words =
    let q = cells_multiplier shape.prime (codes_at b words) in
    set
    (put_at (b.start + b.cells) (filled_by shape.prime q (codes_at b words) (schedules_at b words))
    (put_at b.start (filled_by shape.prime q (codes_at b words) (codes_at b words)) words))
    (3 + shape.codes + j) q
