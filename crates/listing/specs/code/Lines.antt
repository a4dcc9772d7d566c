-- The lines of a table whose pairs stand in two arrays, and what is written of a table or refused: what the contracts of the functions that write them cite.
use Rattle.std.specs.Prelude.{List, ◌++◌, ℕ, ◌≡◌, Result, Ok, Err}
use Rattle.prelude.specs.Answers.{Answer, refused}
use Rattle.prelude.specs.Numbers.{number_of, value_of}
use Rattle.decimal.specs.code.Added.{Added}
use Rattle.prelude.specs.Pairs.{paired}
use Rattle.table.specs.Words.{code_count, cell_count, multiplier}
use Rattle.lines.specs.Lines.{pair_lines, refused_line}
use Rattle.reader.specs.ReadBack.{read_error_of}
use Rattle.listing.specs.Listing.{head_line}
use Rattle.listing.specs.declared.texts.FileError.{FileError}
use Rattle.listing.specs.declared.texts.FileError.TheVariants.{TooLong, NotWords, Refused}

-- the lines of a table with these words, the codes and the schedules of its pairs in two arrays
unfoldable pub table_lines : List ℕ → List ℕ → List ℕ → List ℕ
table_lines words codes schedules =
    head_line (code_count words) (cell_count words) (multiplier words) ++ pair_lines 32 (paired codes schedules)

-- the paper's number for each error
abbrev pub file_error_of : FileError → Answer
file_error_of TooLong = refused 61 0
file_error_of NotWords = refused 62 0
file_error_of (Refused e) = read_error_of e

-- the text is written over the first bytes, or it is the line of an error's refusal, and nothing is written yet
abbrev pub TextOr : {E : Type 0} → (E → Answer) → List ℕ → List ℕ → Result ℕ E → List ℕ → Type 0
TextOr error text old (Ok end) new = Added text 0 old end new
TextOr error text old (Err e) new = (new ≡ old) × (text ≡ refused_line (number_of (error e)) (value_of (error e)))
