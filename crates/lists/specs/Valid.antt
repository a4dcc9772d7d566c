-- What a valid list is (document 01, "What the controller has"), for any prime p and limit on the pairs.
use Rattle.std.specs.Prelude.{ℕ, ◌<◌, ◌≤◌, List, ◌≡◌, length, get_or}
use Rattle.hash.specs.Hash.{Codes}

-- a list of pairs: at most `limit`, different codes from 1 to p - 1, each with a schedule from 1 to 999
pub record Valid (p limit : ℕ) (codes schedules : List ℕ) : Type 0 where
  pub parallel : length schedules ≡ length codes
  pub few : length codes ≤ limit
  pub codes_valid : Codes p codes
  pub schedules_from_one : (i : ℕ) → i < length codes → 1 ≤ get_or schedules i 0
  pub schedules_to_999 : (i : ℕ) → i < length codes → get_or schedules i 0 ≤ 999
