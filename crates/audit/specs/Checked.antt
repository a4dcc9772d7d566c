-- The paper's number and values of each case of a check's answer (document 01, "Check").
use Rattle.std.specs.Prelude.{[], ◌∷◌, Result, Ok, Err}
use Rattle.prelude.specs.Answers.{Answer, given, refused}
use Rattle.audit.specs.declared.check.Accepted.{Accepted}
use Rattle.audit.specs.declared.check.CheckError.{CheckError}
use Rattle.audit.specs.declared.check.CheckError.TheVariants.{TooFewWords, TooManyCodes, TooManyCells, BadMultiplier, TooShort, BadStart, BadBlockMultiplier, BadCell, Misplaced, NotSquare, WrongCount}

abbrev pub check_error_of : CheckError → Answer
check_error_of TooFewWords = refused 11 0
check_error_of TooManyCodes = refused 12 0
check_error_of TooManyCells = refused 13 0
check_error_of BadMultiplier = refused 14 0
check_error_of (TooShort total) = refused 15 total
check_error_of (BadStart j) = refused 16 j
check_error_of (BadBlockMultiplier j) = refused 17 j
check_error_of (BadCell i) = refused 18 i
check_error_of (Misplaced i) = refused 19 i
check_error_of (NotSquare j) = refused 20 j
check_error_of (WrongCount codes) = refused 21 codes

abbrev pub checked_of : Result Accepted CheckError → Answer
checked_of (Ok a) = given (a.codes ∷ a.total ∷ [])
checked_of (Err e) = check_error_of e
