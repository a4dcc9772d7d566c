-- A studio's own test load (document 02, Change 2). Code i is a power of 75, so that the codes of one load differ.
use Rattle.std.specs.Prelude.{ℕ, ◌+◌, ◌%◌, ◌^◌, ◌||◌, List, [], ◌∷◌, ◌≡◌, ltb, length}
use Rattle.prelude.specs.Answers.{Answer, given, refuse, filled}
use Rattle.prelude.specs.Tabulate.{tabulate}

-- code i, from 0: the remainder of 75 to the power i + 1 by 65,537
unfoldable pub test_code : ℕ → ℕ
test_code i = (75 ^ (i + 1)) % 65537

-- its schedule
unfoldable pub test_schedule : ℕ → ℕ
test_schedule i = i % 999 + 1

-- the load of n pairs
abbrev pub test_codes : ℕ → List ℕ
test_codes n = tabulate test_code n

abbrev pub test_schedules : ℕ → List ℕ
test_schedules n = tabulate test_schedule n

-- the answer of generating the load of n pairs into as many places for codes and for schedules as are lent
unfoldable pub generate_of : ℕ → ℕ → ℕ → ℕ → Answer
generate_of limit n codes schedules =
    refuse (ltb limit n || (ltb codes n || ltb schedules n)) 73 0
    (given (n ∷ []))

-- the lent codes and schedules after generating
abbrev pub loaded_codes : ℕ → ℕ → List ℕ → List ℕ → List ℕ
loaded_codes limit n codes schedules = filled (generate_of limit n (length codes) (length schedules)) (test_codes n) codes

abbrev pub loaded_schedules : ℕ → ℕ → List ℕ → List ℕ → List ℕ
loaded_schedules limit n codes schedules = filled (generate_of limit n (length codes) (length schedules)) (test_schedules n) schedules

-- the answer, and both lent arrays at exit
pub record LoadGenerated (limit n : ℕ) (codes schedules : List ℕ) (answer : Answer) (codes' schedules' : List ℕ) : Type 0 where
  pub answers : answer ≡ generate_of limit n (length codes) (length schedules)
  pub codes_at_exit : codes' ≡ loaded_codes limit n codes schedules
  pub schedules_at_exit : schedules' ≡ loaded_schedules limit n codes schedules
