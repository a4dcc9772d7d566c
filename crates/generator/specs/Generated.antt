-- The paper's number for the generator's error, and what it answers (document 02, Change 2).
use Rattle.std.specs.Prelude.{ℕ, Result}
use Rattle.prelude.specs.Answers.{Answer, refused, answer_of}
use Rattle.generator.specs.declared.GenerateError.{GenerateError}
use Rattle.generator.specs.declared.GenerateError.TheVariants.{TooLong}

abbrev pub generate_error_of : GenerateError → Answer
generate_error_of TooLong = refused 73 0

-- the length, or the error
abbrev pub generated_of : Result ℕ GenerateError → Answer
generated_of r = answer_of generate_error_of r
