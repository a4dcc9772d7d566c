-- A word in decimal, as bytes.
use Rattle.std.specs.Prelude.{ℕ, zero, suc, ◌+◌, ◌/◌, ◌%◌, cond, List, [], ◌∷◌, ◌++◌, ltb}

-- the decimal digits of a number that has at most `digits` of them
unfoldable pub digits_of : ℕ → ℕ → List ℕ
digits_of zero x = []
digits_of (suc digits) x = cond (ltb x 10) ((48 + x) ∷ []) (digits_of digits (x / 10) ++ ((48 + x % 10) ∷ []))

-- a word in decimal: a number below 2^32 has at most ten digits
unfoldable pub decimal : ℕ → List ℕ
unfolding digits_of
decimal x = digits_of 10 x
