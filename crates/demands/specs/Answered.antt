-- What the theorems say of answers (demand 1): which ones an operation can give, whatever it is asked.
use Rattle.std.specs.Prelude.{ℕ, ◌<◌, ◌≤◌, cond, true, List, [], ◌∷◌, ◌⊎◌, ◌≡◌, eqb, take}
use Rattle.prelude.specs.Answers.{Answer, given, absent, unknown, refused, over}
use Rattle.prelude.specs.Pairs.{among}

-- a refusal
abbrev pub IsRefusal : Answer → Type 0
IsRefusal answer = (number : ℕ) × (value : ℕ) × (answer ≡ refused number value)

-- a result with these values, or a refusal: by one of the numbers that come with 0, or by one of those that come with a value
unfoldable pub ResultOr : List ℕ → List ℕ → List ℕ → Answer → Type 0
unfolding among
ResultOr result with-zero with_value (given values) = values ≡ result
ResultOr result with-zero with_value absent = ⊥
ResultOr result with-zero with_value (unknown i) = ⊥
ResultOr result with-zero with_value (refused number value) =
    ((among number with-zero ≡ true) × (value ≡ 0)) ⊎ (among number with_value ≡ true)

-- one schedule, from 1 to 999, and its cell, of c
abbrev pub InCell : ℕ → List ℕ → Type 0
InCell c values = (s : ℕ) × (i : ℕ) × (values ≡ s ∷ i ∷ []) × (1 ≤ s) × (s ≤ 999) × (i < c)

-- the answers of a lookup in a table of c cells: found with a schedule, absent, or 31 to 34 with 0
unfoldable pub LookupAnswer : ℕ → Answer → Type 0
LookupAnswer c (given values) = InCell c values
LookupAnswer c absent = Unit {0}
LookupAnswer c (unknown i) = ⊥
LookupAnswer c (refused number value) = (31 ≤ number) × (number ≤ 34) × (value ≡ 0)

-- the answers of a panel of n codes: a schedule, unknown with an index, 31 to 34 and 75 with an index, or 35, 36 and 74 with 0
unfoldable pub PanelAnswer : ℕ → ℕ → Answer → Type 0
unfolding among
PanelAnswer c n (given values) = InCell c values
PanelAnswer c n absent = ⊥
PanelAnswer c n (unknown i) = i < n
PanelAnswer c n (refused number value) =
    ((((31 ≤ number) × (number ≤ 34)) ⊎ (number ≡ 75)) × (value < n)) ⊎ ((among number (35 ∷ 36 ∷ 74 ∷ []) ≡ true) × (value ≡ 0))

-- what C sees of a call that fills lent memory, by the number and the value shown: with 0 this value, and the memory filled; with any other number the
-- memory as it was
abbrev pub FilledOrKept : ℕ → ℕ → ℕ → List ℕ → List ℕ → List ℕ → Type 0
FilledOrKept number shown value new old old' =
    (number ≡ 0 → (shown ≡ value) × (old' ≡ over new old)) × ((number ≡ 0 → ⊥) → old' ≡ old)

-- what an answer says of the schedule: a result without its cell
abbrev pub schedule_alone : Answer → Answer
schedule_alone (given values) = given (take 1 values)
schedule_alone absent = absent
schedule_alone (unknown i) = unknown i
schedule_alone (refused number value) = refused number value

-- an answer with one refusal's number read as another
unfoldable pub read_as : ℕ → ℕ → Answer → Answer
read_as from to (given values) = given values
read_as from to absent = absent
read_as from to (unknown i) = unknown i
read_as from to (refused number value) = refused (cond (eqb number from) to number) value
