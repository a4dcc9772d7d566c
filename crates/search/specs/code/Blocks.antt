-- The least k of a list: what its code promises.
use Rattle.std.specs.Prelude.{ℕ, ◌+◌, ◌*◌, ◌<◌, ◌≤◌, Bool, cond, List, ◌≡◌, leb, length, get_or, Option, Some, None}
use Rattle.hash.specs.Hash.{hash_of, load, cells}
use Rattle.prelude.specs.Tabulate.{tabulate}
use Rattle.table.specs.TwoLevel.{blocks_multiplier}
use Rattle.prelude.specs.Limits.{room}

-- k keeps the cells of a list at most 3n - 2
abbrev pub keeps : ℕ → List ℕ → ℕ → Bool
keeps p codes k = leb (cells p k codes + 2) (3 * length codes)

-- the cells of a list under k, where k keeps the bound
abbrev pub count_of : ℕ → ℕ → List ℕ → Option ℕ
count_of p k codes = cond (keeps p codes k) (Some (cells p k codes)) None

-- codes to count under one multiplier, with a place for each one's block, and a count for each of as many blocks
pub record Countable (p : ℕ) (codes blocks counts : List ℕ) : Type 0 where
  pub below : (i : ℕ) → i < length codes → get_or codes i 0 < p
  pub some : 0 < length codes
  pub few : length codes ≤ room
  pub sized : (length blocks ≡ length codes) × (length counts ≡ length codes)

-- the block of each code under k, and the load of each block
abbrev pub blocks_of : ℕ → ℕ → List ℕ → List ℕ
blocks_of p k codes = tabulate (λ i. hash_of p k (length codes) (get_or codes i 0)) (length codes)

abbrev pub loads_of : ℕ → ℕ → List ℕ → List ℕ
loads_of p k codes = tabulate (λ t. load p k (length codes) t codes) (length codes)

pub record Blocked (p k : ℕ) (codes blocks counts : List ℕ) : Type 0 where
  pub blocks_are : blocks ≡ blocks_of p k codes
  pub loads_are : counts ≡ loads_of p k codes

-- what a counting under k answers, and leaves where k keeps the bound
pub record Counted (p k : ℕ) (codes : List ℕ) (answer : Option ℕ) (blocks counts : List ℕ) : Type 0 where
  pub answers : answer ≡ count_of p k codes
  pub leaves : (c : ℕ) → answer ≡ Some c → Blocked p k codes blocks counts

-- k is the least multiplier of a list, and c its cells
pub record LeastBlocks (p : ℕ) (codes : List ℕ) (k c : ℕ) : Type 0 where
  pub multiplier : k ≡ blocks_multiplier p codes
  pub cells : c ≡ cells p k codes
