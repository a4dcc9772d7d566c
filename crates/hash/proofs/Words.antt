-- Numbers that fit words: products, one law for all widths.
use Prim.Native.Nat.{ℕ, ◌+◌, ◌*◌, ◌^◌, ◌<◌}
use native.Mathlib.Nat.{le_of_lt, lt_of_le_of_lt, mul-le-mul_left, mul-lt-mul_of_pos_right}
use lib.Pow.{pow_pos, pow-add}

-- the product of a number of i bits and one of j bits has at most i + j
pub product_lt : (i j : ℕ) {a b : ℕ} → a < 2 ^ i → b < 2 ^ j → a * b < 2 ^ (i + j)
product_lt i j {a} {b} ha hb =
    rw (pow-add 2 i j) (lt_of_le_of_lt (mul-le-mul_left a (le_of_lt hb)) (mul-lt-mul_of_pos_right ha (pow_pos j)))
