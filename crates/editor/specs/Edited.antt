-- The paper's number and values of each case of an edit's answer (document 01, "Put in, take out").
use Rattle.std.specs.Prelude.{ℕ, Result}
use Rattle.prelude.specs.Answers.{Answer, refused, answer_of}
use Rattle.audit.specs.Checked.{check_error_of}
use Rattle.editor.specs.declared.edit.EditError.{EditError}
use Rattle.editor.specs.declared.edit.EditError.TheVariants.{CodeOutOfRange, ScheduleOutOfRange, Full, TooShort, NotThere, Refused}

abbrev pub edit_error_of : EditError → Answer
edit_error_of CodeOutOfRange = refused 51 0
edit_error_of ScheduleOutOfRange = refused 52 0
edit_error_of Full = refused 53 0
edit_error_of (TooShort total) = refused 54 total
edit_error_of NotThere = refused 55 0
edit_error_of (Refused e) = check_error_of e

-- the new total, or the error
abbrev pub edited_of : Result ℕ EditError → Answer
edited_of r = answer_of edit_error_of r
