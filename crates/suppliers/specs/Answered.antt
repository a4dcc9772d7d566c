-- The paper's number for each error of reading and writing a text, and the answers of both (document 02, Change 1).
use Rattle.std.specs.Prelude.{ℕ, Result}
use Rattle.prelude.specs.Answers.{Answer, refused, answer_of}
use Rattle.suppliers.specs.declared.read.TextError.{TextError}
use Rattle.suppliers.specs.declared.read.TextError.TheVariants.{FaultyLine, TooManyLines}
use Rattle.suppliers.specs.declared.write.WriteError.{WriteError}
use Rattle.suppliers.specs.declared.write.WriteError.TheVariants.{LengthsDiffer, TooManyPairs, TooShort}

abbrev pub text_error_of : TextError → Answer
text_error_of (FaultyLine line) = refused 71 line
text_error_of (TooManyLines lines) = refused 72 lines

-- the pairs that were read, or an error
abbrev pub text_read_of : Result ℕ TextError → Answer
text_read_of r = answer_of text_error_of r

abbrev pub write_error_of : WriteError → Answer
write_error_of LengthsDiffer = refused 1 0
write_error_of TooManyPairs = refused 2 0
write_error_of (TooShort needed) = refused 72 needed

-- the bytes that were written, or an error
abbrev pub text_written_of : Result ℕ WriteError → Answer
text_written_of r = answer_of write_error_of r
