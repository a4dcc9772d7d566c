-- The text that lists a table file (document 01, "The program that lists"), for any prime p and limit on the codes.
-- A byte is a number below 256. Words of the text are written as their bytes, with the letters beside them.
use Rattle.std.specs.Prelude.{ℕ, ◌%◌, not, List, [], ◌∷◌, ◌++◌, ◌≡◌, eqb, ltb, length}
use Rattle.files.specs.Bytes.{words_of}
use Rattle.decimal.specs.Decimal.{decimal}
use Rattle.lines.specs.Lines.{space, newline, pair_lines, refused_line}
use Rattle.prelude.specs.Answers.{Answer, given, absent, unknown, refused, refuse, over}
use Rattle.table.specs.Words.{code_count, cell_count, multiplier}
use Rattle.audit.specs.Check.{check_of}
use Rattle.reader.specs.Pairs.{pairs_in}

-- "codes"
abbrev pub codes_name : List ℕ
codes_name = 99 ∷ 111 ∷ 100 ∷ 101 ∷ 115 ∷ []

-- "cells"
abbrev pub cells_name : List ℕ
cells_name = 99 ∷ 101 ∷ 108 ∷ 108 ∷ 115 ∷ []

-- "multiplier"
abbrev pub multiplier_name : List ℕ
multiplier_name = 109 ∷ 117 ∷ 108 ∷ 116 ∷ 105 ∷ 112 ∷ 108 ∷ 105 ∷ 101 ∷ 114 ∷ []

-- codes N cells C multiplier K
unfoldable pub head_line : ℕ → ℕ → ℕ → List ℕ
unfolding decimal
head_line n c k =
    codes_name ++ (space ++ (decimal n ++ (space
    ++ (cells_name ++ (space ++ (decimal c ++ (space
    ++ (multiplier_name ++ (space ++ (decimal k ++ newline))))))))))

-- the listing of an accepted table: its first line, and CODE SCHEDULE for each pair
unfoldable pub table_text : List ℕ → List ℕ
unfolding head_line pair_lines
table_text words = head_line (code_count words) (cell_count words) (multiplier words) ++ pair_lines 32 (pairs_in words)

-- the answer to a file: 61, 62, or the check's
unfoldable pub file_of : ℕ → ℕ → List ℕ → Answer
unfolding words_of
file_of p limit bytes =
    refuse (ltb 65536 (length bytes)) 61 0
    (refuse (not (eqb (length bytes % 4) 0)) 62 0
    (check_of p limit (words_of bytes)))

-- the text for the answer to a file with these words
unfoldable pub text_of : Answer → List ℕ → List ℕ
unfolding refused_line table_text
text_of answer words =
    elim answer [
      | given values ↦ table_text words
      | absent ↦ []
      | unknown i ↦ []
      | refused number value ↦ refused_line number value
    ]

-- the whole text for a file's bytes
unfoldable pub listing_of : ℕ → ℕ → List ℕ → List ℕ
unfolding file_of text_of
listing_of p limit bytes = text_of (file_of p limit bytes) (words_of bytes)

-- the listing of a file's bytes, written over the first bytes of what was lent; the answer is its length
pub record FileListed (p limit : ℕ) (bytes old : List ℕ) (answer : ℕ) (new : List ℕ) : Type 0 where
  pub length_is : answer ≡ length (listing_of p limit bytes)
  pub text : new ≡ over (listing_of p limit bytes) old
