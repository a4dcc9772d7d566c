-- One block of more codes than one, in the words.
use Rattle.std.specs.Prelude.{ℕ, ◌+◌, ◌*◌, ◌-◌, ◌<◌, ◌≤◌, List, ◌++◌, ◌≡◌, length, get_or, take, drop, replicate}
use Rattle.hash.specs.Hash.{hash_of}
use Rattle.search.specs.code.Cells.{square, filled_by, Separated}
use Rattle.search.specs.code.Searchable.{Searchable}
use Rattle.prelude.specs.Limits.{few}
use Rattle.prelude.specs.Tabulate.{tabulate}
use Rattle.table.specs.TwoLevel.{held_at}
use Rattle.placing.specs.declared.Block.{Block}

-- its codes and its schedules, in the first of its cells
abbrev pub codes_at : Block → List ℕ → List ℕ
codes_at b words = take b.codes (drop b.start words)

abbrev pub schedules_at : Block → List ℕ → List ℕ
schedules_at b words = take b.codes (drop (b.start + b.cells) words)

-- the place of each code of a block by q
pub record PlacesOf (p q : ℕ) (block places : List ℕ) : Type 0 where
  pub each : length places ≡ length block
  pub places_are : (i : ℕ) → i < length block → get_or places i 0 ≡ hash_of p q (square block) (get_or block i 0)

-- q is the least multiplier of a block, whose codes stand in its cells by their places
pub record CodesPlaced (p : ℕ) (block : List ℕ) (q : ℕ) (places cells : List ℕ) : Type 0 where
  pub multiplier : Separated p block q
  pub noted : PlacesOf p q block places
  pub cells_are : cells ≡ filled_by p q block block

-- w cells with each value at its place, and a place in the cells for each
abbrev pub scattered : List ℕ → List ℕ → ℕ → List ℕ
scattered places values w = tabulate (held_at (λ t. t) places values) w

pub record Scattering (places values cells : List ℕ) : Type 0 where
  pub parallel : length values ≡ length places
  pub within : (i : ℕ) → i < length places → get_or places i 0 < length cells

-- m numbers stand in the first of these cells, and the others are 0
pub record First (m : ℕ) (cells : List ℕ) : Type 0 where
  pub some : m ≤ length cells
  pub zeros : drop m cells ≡ replicate (length cells - m) 0

pub record Gathered (p : ℕ) (b : Block) (words : List ℕ) : Type 0 where
  pub searchable : Searchable p (codes_at b words)
  pub some : 2 ≤ b.codes
  pub fits : b.codes ≤ few
  pub apart : b.codes * b.codes ≤ b.cells
  pub enough : b.start + b.cells + b.codes * b.codes ≤ length words
  pub first : First b.codes (take (b.codes * b.codes) (drop b.start words))
  pub second : First b.codes (take (b.codes * b.codes) (drop (b.start + b.cells) words))

-- words with others from a place on
abbrev pub put_at : ℕ → List ℕ → List ℕ → List ℕ
put_at a new words = take a words ++ (new ++ drop (length new) (drop a words))

-- q is its least multiplier, and places its pairs
pub record BlockPlaced (p : ℕ) (b : Block) (words : List ℕ) (q : ℕ) (words' : List ℕ) : Type 0 where
  pub multiplier : Separated p (codes_at b words) q
  pub placed :
      words'
      ≡ put_at (b.start + b.cells) (filled_by p q (codes_at b words) (schedules_at b words))
      (put_at b.start (filled_by p q (codes_at b words) (codes_at b words)) words)
