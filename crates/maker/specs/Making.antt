-- The program that makes a table file of a supplier's text, for any prime p and limit on the pairs. Document 02 leaves the program open: a
-- refusal is a line like the listing's, and a text of more than 65,536 bytes is refused as a file of that length is, by 61.
use Rattle.std.specs.Prelude.{ℕ, ◌≤◌, List, [], ◌≡◌, ltb, length, take}
use Rattle.prelude.specs.Answers.{Answer, given, absent, unknown, refused, refuse, or_refused, over}
use Rattle.prelude.specs.Pairs.{codes_of, schedules_of}
use Rattle.table.specs.TwoLevel.{table_of}
use Rattle.lines.specs.Lines.{refused_line}
use Rattle.files.specs.Bytes.{bytes_of}
use Rattle.suppliers.specs.Text.{pairs_of_text}
use Rattle.suppliers.specs.Lists.{read_list_of}
use Rattle.builder.specs.Build.{build_of}

-- the answer to a text: 61; 71 and 72, with a place for as many pairs as a list may have; then the build's, in 16,384 words
unfoldable pub make_of : ℕ → ℕ → List ℕ → Answer
unfolding pairs_of_text read_list_of build_of
make_of p limit text =
    refuse (ltb 65536 (length text)) 61 0
    (or_refused (read_list_of text limit limit)
    (build_of p limit (codes_of (pairs_of_text text)) (schedules_of (pairs_of_text text)) 16384))

-- the bytes for an answer about a list: those of the words of its table, or a refusal's line
unfoldable pub bytes_for : ℕ → List ℕ → List ℕ → Answer → List ℕ
unfolding table_of bytes_of refused_line
bytes_for p codes schedules answer =
    elim answer [
      | given values ↦ bytes_of (table_of p codes schedules)
      | absent ↦ []
      | unknown i ↦ []
      | refused number value ↦ refused_line number value
    ]

-- all bytes that are made of a text
unfoldable pub made_of : ℕ → ℕ → List ℕ → List ℕ
unfolding pairs_of_text make_of bytes_for
made_of p limit text = bytes_for p (codes_of (pairs_of_text text)) (schedules_of (pairs_of_text text)) (make_of p limit text)

-- they are written over the first of the lent bytes; the answer is their number
pub record TableMade (p limit : ℕ) (text old : List ℕ) (answer : ℕ) (new : List ℕ) : Type 0 where
  pub length_is : answer ≡ length (made_of p limit text)
  pub bytes : new ≡ over (made_of p limit text) old
  -- they are a part of what was lent, so that they can be written to a file
  pub part : (answer ≤ length new) × (answer ≡ length (take answer new))
