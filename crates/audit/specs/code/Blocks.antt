-- One block of a table by itself: what the check hands on, and what it relies on there.
use Rattle.std.specs.Prelude.{ℕ, ◌*◌, ◌-◌, ◌<◌, ◌≤◌, Bool, not, ◌&&◌, List, ◌≡◌, eqb, length, get_or}
use Rattle.hash.specs.Hash.{hash_of}
use Rattle.hash.specs.declared.Hasher.{Hasher}
use Rattle.prelude.specs.Answers.{some}
use Rattle.table.specs.Words.{code_count, cell_count, total, block_start, block_end, block_multiplier, cell_code}
use Rattle.prelude.specs.code.Choice.{chosen}
use Rattle.table.specs.code.Sized.{Sized}
use Rattle.audit.specs.Check.{codes_in}
use Rattle.audit.specs.code.Starts.{Starts}
use Rattle.audit.specs.declared.blocks.BlockHash.{BlockHash}
use Rattle.audit.specs.declared.blocks.BlockTest.{BlockTest}

-- code a belongs to another block than j
unfoldable pub elsewhere : Hasher → ℕ → ℕ → Bool
elsewhere h j a = not (eqb (hash_of h.prime h.multiplier h.places a) j)

-- place t of a block is not code a's own: the code belongs to another block, or has another place there
unfoldable pub not_own : Hasher → BlockHash → ℕ → ℕ → Bool
not_own h b t a =
    not (eqb (hash_of h.prime h.multiplier h.places a) b.number && eqb (hash_of h.prime b.multiplier b.cells a) t)

-- place t of a part holds a code
abbrev pub holds : List ℕ → ℕ → Bool
holds part t = not (eqb (get_or part t 0) 0)

-- place t of a part holds a code, and is not its own
unfoldable pub misplaced_in : Hasher → BlockHash → List ℕ → ℕ → Bool
unfolding not_own
misplaced_in h b part t = holds part t && not_own h b t (get_or part t 0)

-- a block's codes, with the hashes of the table and of the block
pub record Handed (h : Hasher) (b : BlockHash) (part : List ℕ) : Type 0 where
  pub below : b.multiplier < h.prime
  pub cells_are : length part ≡ b.cells
  pub codes_below : (t : ℕ) → t < length part → get_or part t 0 < h.prime

-- all places that hold a code are listed
pub record PlacesListed (part list : List ℕ) : Type 0 where
  pub codes : length list ≡ codes_in part
  pub places : list ≡ chosen (holds part) (length part)

-- what the test of a block finds
pub record Tested (h : Hasher) (b : BlockHash) (part : List ℕ) (r : BlockTest) : Type 0 where
  pub misplaced_is : r.misplaced ≡ some (length part) (misplaced_in h b part)
  pub codes : r.codes ≡ codes_in part

-- a table whose blocks follow one another, in the words
pub record Lined (words : List ℕ) : Type 0 where
  pub few_codes : code_count words ≤ 65536
  pub few_cells : cell_count words ≤ 3 * code_count words
  pub whole : total words ≤ length words
  pub starts : Starts words

-- a table that passed 12 to 18
pub record Ranged (p limit : ℕ) (words : List ℕ) : Type 0 where
  pub sized : Sized p limit words
  pub starts : Starts words
  pub multipliers : (j : ℕ) → j < code_count words → block_multiplier words j < p
  pub codes : (i : ℕ) → i < cell_count words → cell_code words i < p

-- b is the hash of block j's codes into its cells
pub record BlockHashOf (words : List ℕ) (j : ℕ) (b : BlockHash) : Type 0 where
  pub number_is : b.number ≡ j
  pub multiplier_is : b.multiplier ≡ block_multiplier words j
  pub cells_is : b.cells ≡ block_end words j - block_start words j
