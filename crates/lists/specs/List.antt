-- The refusals of a list of pairs (document 01, "Build", 1 to 5), for any prime p and limit on the pairs.
use Rattle.std.specs.Prelude.{ℕ, ◌-◌, Bool, not, List, [], eqb, ltb, length, get_or, Result, Ok, Err}
use Rattle.prelude.specs.Answers.{Answer, given, refused, refuse, refuse_first, outside}
use Rattle.repeats.specs.Repeated.{repeated}
use Rattle.lists.specs.declared.list.ListError.{ListError}
use Rattle.lists.specs.declared.list.ListError.TheVariants.{LengthsDiffer, TooManyPairs, BadCode, BadSchedule, Repeated}

-- conditions 3 and 4 of the pair with index i: its code or schedule out of range
unfoldable pub bad_code : ℕ → List ℕ → ℕ → Bool
bad_code p codes i = outside 1 (p - 1) (get_or codes i 0)

unfoldable pub bad_schedule : List ℕ → ℕ → Bool
bad_schedule schedules i = outside 1 999 (get_or schedules i 0)

-- refusals 1 and 2 of a list, by its sizes, otherwise what follows
abbrev pub sizes_or : ℕ → List ℕ → List ℕ → Answer → Answer
sizes_or limit codes schedules rest =
    refuse (not (eqb (length codes) (length schedules))) 1 0
    (refuse (ltb limit (length codes)) 2 0
    rest)

-- the refusals of a list, otherwise what follows
unfoldable pub list_or : ℕ → ℕ → List ℕ → List ℕ → Answer → Answer
unfolding bad_code bad_schedule repeated
list_or p limit codes schedules rest =
    sizes_or limit codes schedules
    (refuse_first (length codes) (bad_code p codes) 3
    (refuse_first (length codes) (bad_schedule schedules) 4
    (refuse_first (length codes) (repeated codes) 5
    rest)))

-- the paper's number for each error of a list
abbrev pub list_error_of : ListError → Answer
list_error_of LengthsDiffer = refused 1 0
list_error_of TooManyPairs = refused 2 0
list_error_of (BadCode i) = refused 3 i
list_error_of (BadSchedule i) = refused 4 i
list_error_of (Repeated i) = refused 5 i

-- what validating a list answers; a valid list has no value of its own
abbrev pub listed_of : Result Unit ListError → Answer
listed_of (Ok valid) = given []
listed_of (Err e) = list_error_of e
