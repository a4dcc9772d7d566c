-- Reading a supplier's list and writing one (document 02, Change 1).
use Rattle.std.specs.Prelude.{ℕ, Bool, not, ◌||◌, List, [], ◌∷◌, ◌≡◌, ltb, length, get_or}
use Rattle.prelude.specs.Answers.{Answer, given, refuse, refuse_first, into_room, filled}
use Rattle.prelude.specs.Pairs.{codes_of, schedules_of, paired}
use Rattle.lists.specs.List.{sizes_or}
use Rattle.lines.specs.Lines.{pair_lines}
use Rattle.suppliers.specs.Text.{lines_of, is_line, pairs_of_text}

-- ---- reading

-- line i is of another shape, has a number above 4,294,967,295, or is a last line that is not ended
unfoldable pub faulty_line : List ℕ → ℕ → Bool
unfolding lines_of is_line
faulty_line text i = not (is_line (get_or (lines_of text) i []))

-- the answer of reading a text into as many places for codes and for schedules as are lent
unfoldable pub read_list_of : List ℕ → ℕ → ℕ → Answer
unfolding lines_of faulty_line
read_list_of text codes schedules =
    refuse_first (length (lines_of text)) (faulty_line text) 71
    (refuse (ltb codes (length (lines_of text)) || ltb schedules (length (lines_of text))) 72 (length (lines_of text))
    (given (length (lines_of text) ∷ [])))

-- the lent codes and schedules after reading
abbrev pub list_codes : List ℕ → List ℕ → List ℕ → List ℕ
list_codes text codes schedules = filled (read_list_of text (length codes) (length schedules)) (codes_of (pairs_of_text text)) codes

abbrev pub list_schedules : List ℕ → List ℕ → List ℕ → List ℕ
list_schedules text codes schedules = filled (read_list_of text (length codes) (length schedules)) (schedules_of (pairs_of_text text)) schedules

-- the answer, and both lent arrays at exit
pub record ListRead (text codes schedules : List ℕ) (answer : Answer) (codes' schedules' : List ℕ) : Type 0 where
  pub answers : answer ≡ read_list_of text (length codes) (length schedules)
  pub codes_at_exit : codes' ≡ list_codes text codes schedules
  pub schedules_at_exit : schedules' ≡ list_schedules text codes schedules

-- ---- writing

-- the text of a list: a line for each pair, in the list's order
abbrev pub list_text : List ℕ → List ℕ → List ℕ
list_text codes schedules = pair_lines 44 (paired codes schedules)

-- the answer of writing into this many lent bytes
unfoldable pub write_list_of : ℕ → List ℕ → List ℕ → ℕ → Answer
write_list_of limit codes schedules lent =
    sizes_or limit codes schedules
    (into_room 72 (length (list_text codes schedules)) lent)

-- the lent bytes after writing
abbrev pub written_text : ℕ → List ℕ → List ℕ → List ℕ → List ℕ
written_text limit codes schedules text = filled (write_list_of limit codes schedules (length text)) (list_text codes schedules) text

-- the answer, and the lent bytes at exit
pub record ListWritten (limit : ℕ) (codes schedules text : List ℕ) (answer : Answer) (text' : List ℕ) : Type 0 where
  pub answers : answer ≡ write_list_of limit codes schedules (length text)
  pub text_at_exit : text' ≡ written_text limit codes schedules text
