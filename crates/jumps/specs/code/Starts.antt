-- What a start relies on: how far codes lie apart and by which common step, and when they lie in too few places.
use Rattle.std.specs.Prelude.{ℕ, ◌+◌, ◌*◌, ◌-◌, ◌/◌, ◌%◌, ◌<◌, ◌≤◌, Bool, true, List, ◌≡◌, ltb, length, get_or}

-- every code is from low to high
pub record Between (low high : ℕ) (codes : List ℕ) : Type 0 where
  pub from_low : (i : ℕ) → i < length codes → low ≤ get_or codes i 0
  pub to_high : (i : ℕ) → i < length codes → get_or codes i 0 ≤ high

-- r divides a and b
pub record Divisor (a b r : ℕ) : Type 0 where
  pub some : 0 < r
  pub left : a % r ≡ 0
  pub right : b % r ≡ 0

-- e divides the places, and how far each code is above low
pub record CommonStep (w low : ℕ) (codes : List ℕ) (e : ℕ) : Type 0 where
  pub some : 0 < e
  pub count : w % e ≡ 0
  pub each : (i : ℕ) → i < length codes → (get_or codes i 0 - low) % e ≡ 0

-- n codes in m places make more than `most` pairs: they make at least t * n - m * t * (t + 1) / 2, with t = n / m
unfoldable pub crowded : ℕ → ℕ → ℕ → Bool
crowded n most m = ltb (2 * most + m * (n / m) * (n / m + 1)) (2 * (n / m) * n)

-- codes with so many remainders and b quotients are crowded; of one quotient nothing is said
pub record Quotients (n most remainders b : ℕ) : Type 0 where
  pub some : 0 < b
  pub crowds : 1 < b → crowded n most (remainders * b) ≡ true

-- for every multiplier before r the products of codes that are so far apart differ by less than so many times p
pub record Before (p times width r : ℕ) : Type 0 where
  pub from : 1 ≤ r
  pub within : r ≤ p
  pub near : (j : ℕ) → j < r → j * width < times * p
