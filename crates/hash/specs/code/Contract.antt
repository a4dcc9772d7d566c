-- What the functions of this crate answer.
use Rattle.std.specs.Prelude.{ℕ, ◌+◌, ◌*◌, ◌/◌, ◌%◌, ◌<◌, ◌≤◌, cond, ◌≡◌, ltb, Option, Some, None}
use Rattle.hash.specs.Hash.{hash_of}

-- r is the remainder of x by w
pub record Remainder (x w r : ℕ) : Type 0 where
  pub value : r ≡ x % w
  pub range : r < w

-- r is the place of code a among w places
pub record Hashed (p k w a r : ℕ) : Type 0 where
  pub value : r ≡ hash_of p k w a
  pub range : r < w

-- the precomputed reciprocal of w for numbers below p: 2 ^ 32 / w rounded up; none where p or w is too large for that to be exact
unfoldable pub reciprocal_of : ℕ → ℕ → Option ℕ
reciprocal_of p w = cond (ltb 65537 p) None (cond (ltb 65535 w) None (Some (4294967295 / w + 1)))

-- r divides numbers below p by w: it is 2 ^ 32 / w rounded up, and p and w are small enough for that to be exact
pub record Reciprocal (p w r : ℕ) : Type 0 where
  pub prime : p ≤ 65537
  pub places : w < 65536
  pub low : 4294967296 ≤ r * w
  pub high : r * w < 4294967296 + w

-- what a remainder by the places relies on: there are some, and their reciprocal is one
pub record Ready (p w : ℕ) (reciprocal : Option ℕ) : Type 0 where
  pub positive : 0 < w
  pub exact : (r : ℕ) → reciprocal ≡ Some r → Reciprocal p w r
