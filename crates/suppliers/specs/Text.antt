-- A supplier's list as text (document 02, Change 1): for each pair a line of its code, a comma and its schedule, ended by a newline byte.
-- A byte is a number below 256: 44 is the comma, 10 the newline.
use Rattle.std.specs.Prelude.{ℕ, Bool, cond, ◌&&◌, List, [], ◌∷◌, ◌++◌, map, ◌≡◌, eqb, length, get_or, drop}
use Rattle.prelude.specs.Pairs.{Pair}
use Rattle.decimal.specs.Number.{Number, decimal_value, digits_in, after_digits, is_number}

-- ---- what a text of a list is

-- these bytes are the line of a pair
pub record Line (line : List ℕ) (r : Pair) : Type 0 where
  pub code_digits : List ℕ
  pub schedule_digits : List ℕ
  pub code_there : Number code_digits r.code
  pub schedule_there : Number schedule_digits r.schedule
  pub bytes : line ≡ code_digits ++ (44 ∷ schedule_digits ++ (10 ∷ []))

-- these bytes are the lines of pairs, one after the other
unfoldable pub TextOf : List Pair → List ℕ → Type 0
TextOf [] text = text ≡ []
TextOf (r ∷ pairs) text = (line : List ℕ) × (rest : List ℕ) × Line line r × TextOf pairs rest × (text ≡ line ++ rest)

-- ---- the function that reads it

-- the lines, the first of them with a byte before it
abbrev pub starting_with : ℕ → List (List ℕ) → List (List ℕ)
starting_with b [] = (b ∷ []) ∷ []
starting_with b (line ∷ lines) = (b ∷ line) ∷ lines

-- the lines of any text: each ends with its newline byte, but for a last one that is not ended
unfoldable pub lines_of : List ℕ → List (List ℕ)
lines_of [] = []
lines_of (b ∷ text) = cond (eqb b 10) ((b ∷ []) ∷ lines_of text) (starting_with b (lines_of text))

-- the bytes of a line after its first digits and the byte that follows them
abbrev pub after_comma : List ℕ → List ℕ
after_comma line = drop 1 (after_digits line)

-- whether a line is that of a pair: a number, a comma, a number, the newline byte and nothing else
unfoldable pub is_line : List ℕ → Bool
unfolding digits_in after_digits is_number
is_line line =
    is_number (digits_in line)
    && (eqb (get_or (after_digits line) 0 0) 44
    && (is_number (digits_in (after_comma line))
    && (eqb (get_or (after_digits (after_comma line)) 0 0) 10
    && eqb (length (after_digits (after_comma line))) 1)))

-- the pair of a line
abbrev pub pair_of : List ℕ → Pair
pair_of line = record { code = decimal_value (digits_in line); schedule = decimal_value (digits_in (after_comma line)) }

-- the pairs of a text, a pair for each line
unfoldable pub pairs_of_text : List ℕ → List Pair
unfolding lines_of
pairs_of_text text = map pair_of (lines_of text)
