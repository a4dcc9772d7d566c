-- The least q of a block: what its code asks and promises.
use Rattle.std.specs.Prelude.{ℕ, ◌*◌, ◌<◌, ◌≤◌, Bool, cond, List, ◌≡◌, eqb, length, drop, replicate}
use Rattle.hash.specs.Hash.{hash_of, together}
use Rattle.prelude.specs.Tabulate.{tabulate}
use Rattle.table.specs.TwoLevel.{cells_multiplier, held_at}
use Rattle.search.specs.code.Searchable.{Searchable}

-- the number of a block's cells
abbrev pub square : List ℕ → ℕ
square block = length block * length block

-- q puts the codes of a block in different cells
abbrev pub separates : ℕ → List ℕ → ℕ → Bool
separates p block q = eqb (together p q (square block) block) 0

-- the cells of a block with the values listed with its codes, placed by q
abbrev pub filled_by : ℕ → ℕ → List ℕ → List ℕ → List ℕ
filled_by p q block values = tabulate (held_at (hash_of p q (square block)) block values) (square block)

-- a block and its cells, all of them 0
pub record Unplaced (p : ℕ) (block cells : List ℕ) : Type 0 where
  pub codes : Searchable p block
  pub zeros : cells ≡ replicate (square block) 0

-- of the codes of a block, those from i on are in w cells, no two in one
pub record Placing (p q w : ℕ) (block : List ℕ) (i : ℕ) (cells : List ℕ) : Type 0 where
  pub left : i ≤ length block
  pub sized : length cells ≡ w
  pub apart : together p q w (drop i block) ≡ 0
  pub held : cells ≡ tabulate (held_at (hash_of p q w) (drop i block) (drop i block)) w

-- r tells whether q separates a block; its cells are filled if so, and otherwise kept
pub record Tried (p q : ℕ) (block old new : List ℕ) (r : Bool) : Type 0 where
  pub answer : r ≡ separates p block q
  pub cells : new ≡ cond (separates p block q) (filled_by p q block block) old

-- q is the least multiplier of a block, and puts its codes in different cells
pub record Separated (p : ℕ) (block : List ℕ) (q : ℕ) : Type 0 where
  pub multiplier : q ≡ cells_multiplier p block
  pub below : q < p
  pub apart : together p q (square block) block ≡ 0

-- q is not past the least multiplier of a block
pub record Untried (p : ℕ) (block : List ℕ) (q : ℕ) : Type 0 where
  pub from_one : 1 ≤ q
  pub upto : q ≤ cells_multiplier p block
