-- A number in decimal that is read (document 02, Change 1): plain digits without leading zeros, 0 as the one digit 0, at most 4,294,967,295.
use Rattle.std.specs.Prelude.{ℕ, ◌+◌, ◌*◌, ◌-◌, ◌<◌, ◌≤◌, Bool, cond, not, ◌&&◌, ◌||◌, List, [], ◌∷◌, ◌≡◌, eqb, leb, ltb, length, get_or}

-- the number that digits stand for, after others that stand for v; the last digit is the least significant
unfoldable pub value_after : ℕ → List ℕ → ℕ
value_after v [] = v
value_after v (b ∷ digits) = value_after (10 * v + (b - 48)) digits

-- the number that digits stand for
abbrev pub decimal_value : List ℕ → ℕ
decimal_value digits = value_after 0 digits

-- these bytes are the number x
pub record Number (digits : List ℕ) (x : ℕ) : Type 0 where
  -- plain digits, 48 to 57, at least one
  pub some_digit : 0 < length digits
  pub plain : (i : ℕ) → i < length digits → (48 ≤ get_or digits i 0) × (get_or digits i 0 ≤ 57)
  -- no leading zero: 0 is the one digit 0
  pub no_leading_zero : get_or digits 0 0 ≡ 48 → length digits ≡ 1
  pub value : decimal_value digits ≡ x
  pub most : x ≤ 4294967295

-- the same as a test: of a byte, whether it is a digit
abbrev pub is_digit : ℕ → Bool
is_digit b = leb 48 b && leb b 57

-- the digits that a text begins with, and what follows them
unfoldable pub digits_in : List ℕ → List ℕ
digits_in [] = []
digits_in (b ∷ text) = cond (is_digit b) (b ∷ digits_in text) []

unfoldable pub after_digits : List ℕ → List ℕ
after_digits [] = []
after_digits (b ∷ text) = cond (is_digit b) (after_digits text) (b ∷ text)

-- of digits, whether they are a number
unfoldable pub is_number : List ℕ → Bool
unfolding value_after
is_number digits =
    ltb 0 (length digits)
    && ((not (eqb (get_or digits 0 0) 48) || eqb (length digits) 1)
    && leb (decimal_value digits) 4294967295)
