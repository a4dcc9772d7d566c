-- What the two searches ask.
use Rattle.std.specs.Prelude.{ℕ, ◌≤◌, List, length}
use Rattle.hash.specs.Hash.{Codes}
use Rattle.hash.specs.Theorems.{Prime}
use Rattle.prelude.specs.Limits.{room}

-- a list, or a block of one, whose least multiplier exists and is searched for
pub record Searchable (p : ℕ) (codes : List ℕ) : Type 0 where
  pub prime : Prime p
  pub valid : Codes p codes
  pub few : length codes ≤ room
