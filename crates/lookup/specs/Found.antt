-- The paper's number for each case of a lookup's answer (document 01, "Look up").
use Rattle.std.specs.Prelude.{[], ◌∷◌, Option, Some, None, Result, Ok, Err}
use Rattle.prelude.specs.Answers.{Answer, given, absent, refused}
use Rattle.lookup.specs.declared.Found.{Found}
use Rattle.lookup.specs.declared.LookupError.{LookupError}
use Rattle.lookup.specs.declared.LookupError.TheVariants.{CodeOutOfRange, TooFewWords, BadSizes, BadBlock}

abbrev pub lookup_error_of : LookupError → Answer
lookup_error_of CodeOutOfRange = refused 31 0
lookup_error_of TooFewWords = refused 32 0
lookup_error_of BadSizes = refused 33 0
lookup_error_of BadBlock = refused 34 0

abbrev pub found_of : Result (Option Found) LookupError → Answer
found_of (Ok (Some found)) = given (found.schedule ∷ found.cell ∷ [])
found_of (Ok None) = absent
found_of (Err e) = lookup_error_of e
