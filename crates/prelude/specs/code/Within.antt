-- What the code promises of a number that is an index, or a part of a sum.
use Rattle.std.specs.Prelude.{ℕ, ◌<◌, ◌≡◌}

-- r is the number x, which is below the bound
pub record Within (x bound r : ℕ) : Type 0 where
  pub value : r ≡ x
  pub range : r < bound
