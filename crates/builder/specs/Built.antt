-- The paper's number for each error of a build, and what it answers (document 01, "Build").
use Rattle.std.specs.Prelude.{ℕ, Result}
use Rattle.prelude.specs.Answers.{Answer, refused, answer_of}
use Rattle.lists.specs.List.{list_error_of}
use Rattle.builder.specs.declared.build.BuildError.{BuildError}
use Rattle.builder.specs.declared.build.BuildError.TheVariants.{TooShort, Refused}

abbrev pub build_error_of : BuildError → Answer
build_error_of (TooShort total) = refused 6 total
build_error_of (Refused e) = list_error_of e

-- the total, or the error
abbrev pub built_of : Result ℕ BuildError → Answer
built_of r = answer_of build_error_of r
