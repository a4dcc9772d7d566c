-- An answer as a number and a value: what C sees of it (include/glass.h), and what a refusal's line in a listing shows.
use Rattle.std.specs.Prelude.{ℕ, ◌-◌, ◌≡◌, length, get_or}
use Rattle.prelude.specs.Answers.{Answer, given, absent, unknown, refused}
use Rattle.prelude.specs.declared.answers.Numbered.{Numbered}
use Rattle.prelude.specs.declared.answers.NumberedSize.{NumberedSize}
use Rattle.prelude.specs.declared.answers.NumberedFound.{NumberedFound}

-- 0 for a result, 1000 for an absent or unknown code, the refusal's number otherwise
abbrev pub number_of : Answer → ℕ
number_of (given values) = 0
number_of absent = 1000
number_of (unknown i) = 1000
number_of (refused number value) = number

-- the last value of a result (of an accepted table its total), 0 for an absent code, the index of an unknown one, what comes with a refusal
abbrev pub value_of : Answer → ℕ
value_of (given values) = get_or values (length values - 1) 0
value_of absent = 0
value_of (unknown i) = i
value_of (refused number value) = value

-- r is the number and the value of an answer: the promise of `refusal` (prelude/src/answers.rt), of each function that shows an answer in numbers, and of every C export
pub record Shown (answer : Answer) (r : Numbered) : Type 0 where
  pub number_shown : r.number ≡ number_of answer
  pub value_shown : r.value ≡ value_of answer

-- the same where the value is a size
pub record SizeShown (answer : Answer) (r : NumberedSize) : Type 0 where
  pub number_shown : r.number ≡ number_of answer
  pub value_shown : r.value ≡ value_of answer

-- a lookup's and a panel's result is a schedule and its cell: the value is the schedule, and otherwise as above
abbrev pub found_value_of : Answer → ℕ
found_value_of (given values) = get_or values 0 0
found_value_of absent = 0
found_value_of (unknown i) = i
found_value_of (refused number value) = value

-- only a result has a cell; 0 where there is none
abbrev pub found_cell_of : Answer → ℕ
found_cell_of (given values) = get_or values 1 0
found_cell_of absent = 0
found_cell_of (unknown i) = 0
found_cell_of (refused number value) = 0

-- r is the number, the value and the cell of such an answer
pub record FoundShown (answer : Answer) (r : NumberedFound) : Type 0 where
  pub number_shown : r.number ≡ number_of answer
  pub value_shown : r.value ≡ found_value_of answer
  pub cell_shown : r.cell ≡ found_cell_of answer
