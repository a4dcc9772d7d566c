-- How a text is gone through: its first line, whether it is that of a pair, and where it ends.
use Rattle.std.specs.Prelude.{ℕ, ◌+◌, ◌-◌, ◌<◌, ◌≤◌, Bool, false, cond, ◌&&◌, List, [], ◌∷◌, ◌≡◌, eqb, length, get_or, drop, Option, Some, None}
use Rattle.decimal.specs.Number.{digits_in, after_digits, is_number}
use Rattle.prelude.specs.Answers.{Answer, given, refuse_first, over}
use Rattle.prelude.specs.Pairs.{codes_of, schedules_of}
use Rattle.suppliers.specs.Text.{lines_of, after_comma, pairs_of_text}
use Rattle.suppliers.specs.Lists.{faulty_line}

-- the first line of a text, with its newline byte, and what follows it
unfoldable pub first_line : List ℕ → List ℕ
first_line [] = []
first_line (b ∷ text) = cond (eqb b 10) (b ∷ []) (b ∷ first_line text)

unfoldable pub after_line : List ℕ → List ℕ
after_line [] = []
after_line (b ∷ text) = cond (eqb b 10) text (after_line text)

-- whether a text begins with the line of a pair
unfoldable pub begins_line : List ℕ → Bool
begins_line text =
    is_number (digits_in text)
    && (eqb (get_or (after_digits text) 0 0) 44
    && (is_number (digits_in (after_comma text))
    && eqb (get_or (after_digits (after_comma text)) 0 0) 10))

-- r is where the last line that is ended ends: past the last newline byte, or 0
pub record TextEnd (text : List ℕ) (r : ℕ) : Type 0 where
  pub within : r ≤ length text
  pub newline : 0 < r → get_or text (r - 1) 0 ≡ 10
  pub none_after : (i : ℕ) → r ≤ i → get_or text i 0 ≡ 10 → ⊥

-- a newline byte stands at `at` or after it
pub record NewlineFrom (text : List ℕ) (at : ℕ) : Type 0 where
  pub place : ℕ
  pub later : at ≤ place
  pub newline : get_or text place 0 ≡ 10

-- where the line of a pair from `at` on ends, if there is one
unfoldable pub line_end : List ℕ → ℕ → Option ℕ
unfolding first_line begins_line
line_end text at = cond (begins_line (drop at text)) (Some (at + length (first_line (drop at text)))) None

-- the answer of judging all lines: their number, or 71
unfoldable pub judge_of : List ℕ → Answer
unfolding lines_of faulty_line
judge_of text = refuse_first (length (lines_of text)) (faulty_line text) 71 (given (length (lines_of text) ∷ []))

-- there are so many lines, none of them faulty, and a place for the pair of each
pub record Fillable (text : List ℕ) (lines : ℕ) (codes schedules : List ℕ) : Type 0 where
  pub counted : lines ≡ length (lines_of text)
  pub right : (i : ℕ) → i < length (lines_of text) → faulty_line text i ≡ false
  pub codes_room : length (lines_of text) ≤ length codes
  pub schedules_room : length (lines_of text) ≤ length schedules

-- the first places of both arrays hold the pairs of the lines, and the later ones are kept
pub record Filled (text codes schedules codes' schedules' : List ℕ) : Type 0 where
  pub codes_at_exit : codes' ≡ over (codes_of (pairs_of_text text)) codes
  pub schedules_at_exit : schedules' ≡ over (schedules_of (pairs_of_text text)) schedules
